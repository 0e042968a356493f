use Rattle.std.proofs.Common.{◌≡◌, ℕ, List, length, vec_capacity}
use Rattle.constriction_base.specs.Models.{pairs_of}
use Rattle.constriction_chain.specs.Symbols.{ChainDecodesAll}
use Rattle.constriction_calls.proofs.chain.decoding.decode_with_list.Given as goal

abbrev pub invariant-loop-place : goal.invariant-loop-place
invariant-loop-place g l =
    record {
      count : length l.symbols.items ≡ l.place;
      capacity : vec_capacity l.symbols ≡ l.fn.count;
      taken : ChainDecodesAll g.Word.Natural.BITS g.State.Natural.BITS (pairs_of g.row.PRECISION (λ (table : List (ℕ × ℕ × ℕ)). table) l.symbols.items (g.L.DecoderModelList.tables l.fn.models))
          l.fn.coder.state l.coder.state;
      tables : g.L.DecoderModelList.tables l.models ≡ g.L.DecoderModelList.tables l.fn.models;
    }
