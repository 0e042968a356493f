use Rattle.std.proofs.Common.{◌≡◌, length}
use Rattle.std.specs.Prelude.{vec_capacity}
use Rattle.constriction_calls.specs.SymbolCalls.{BeginWithCodewords}
use Rattle.constriction_calls.proofs.symbol.decoding.read_symbols.Given as goal

-- so many symbols were read, and there is room for all
abbrev pub invariant-loop-done : goal.invariant-loop-done
invariant-loop-done g l =
    record {
      counted : length l.read.items ≡ l._done;
      capacity : vec_capacity l.read ≡ length l.fn.symbols;
      so_far : BeginWithCodewords (g.C.Codebook.codeword l.fn.codebook) l.read.items (g.R.ReadBitStream.unread l.fn.stream) (g.R.ReadBitStream.unread l.stream);
    }
