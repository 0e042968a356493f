use Rattle.constriction_stream.specs.Lists.{StepsAll}
use Rattle.constriction_base.specs.Backends.{IsWrite}
use Rattle.constriction_symbol.specs.Reversed.{StacksPair}
use Rattle.constriction_symbol.proofs.writing.StackCoder+Word+B.encode_symbols_reverse.Given as goal

-- the codewords of the items that came were written
abbrev pub invariant-loop-symbol : goal.invariant-loop-symbol
invariant-loop-symbol g l =
    (goal.iterator-loop-symbol g).can_next l.symbol-iterator
    × (goal.iterator-loop-symbol g).is_finite l.symbol-iterator
    × StepsAll (StacksPair g.Word.Natural.BITS g.Word.Natural.number (IsWrite g.B.Holds.words g.B.WriteWords.room g.B.WriteWords.writes g.B.WriteWords.write_fails) g.C.EncoderCodebook.suffix_wants g.B.WriteError.From.from_gives g.C.Codebook.codeword g.L.Lent.lent) l.initial.self l.yielded l.self
