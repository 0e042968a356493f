use Rattle.std.proofs.Common.{◌≡◌, ℕ, List, drop, length, vec_capacity}
use Rattle.constriction_base.specs.Models.{pairs_of}
use Rattle.constriction_queue.specs.Decoder.{StandsAt}
use Rattle.constriction_queue.specs.Range.{Run}
use Rattle.constriction_queue.specs.Symbols.{FindsAll}
use Rattle.constriction_calls.proofs.range.decoding.decode_count.Given as goal

abbrev pub invariant-loop-i : goal.invariant-loop-i
invariant-loop-i g l =
    let w = g.Word.Natural.BITS in
    let s = g.State.Natural.BITS in
    let tables = g.G.DecoderList.DecoderModelList.tables l.initial.list in
    let items = pairs_of g.row.PRECISION (λ (table : List (ℕ × ℕ × ℕ)). table) in
    record {
      counted : length l.again.items ≡ l.i;
      capacity : vec_capacity l.again ≡ l.fn.count;
      taken : (words : List ℕ) (old : Run) → StandsAt w s words old l.fn.decoder
          → (mid : Run) × FindsAll w s words (items l.again.items tables) old mid × StandsAt w s words mid l.decoder;
      left : (words symbols : List ℕ) (old last : Run) → StandsAt w s words old l.fn.decoder → FindsAll w s words (items symbols tables) old last
          → length symbols ≡ l.fn.count
          → (mid : Run) × StandsAt w s words mid l.decoder × FindsAll w s words (items (drop l.i symbols) (drop l.i tables)) mid last;
      tables : g.G.DecoderList.DecoderModelList.tables l.list ≡ tables;
    }
