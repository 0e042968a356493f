use Rattle.constriction_stream.specs.Lists.{StepsAll}
use Rattle.constriction_symbol.specs.Codewords.{LacksMemoryFor, WritesPair}
use Rattle.constriction_symbol.proofs.writing.WriteBitStream.encode_symbols.Given as goal

-- the codewords of the items that came were written
abbrev pub invariant-loop-symbol : goal.invariant-loop-symbol
invariant-loop-symbol g l =
    (goal.iterator-loop-symbol g).can_next l.symbol-iterator
    × (goal.iterator-loop-symbol g).is_finite l.symbol-iterator
    × StepsAll (WritesPair g.Self.WriteBitStream.bits g.Self.WriteBitStream.puts (LacksMemoryFor g.S.BitOrder.chosen g.C.EncoderCodebook.prefix_wants g.C.EncoderCodebook.suffix_wants g.Self.WriteError.From.from_gives) g.C.Codebook.codeword g.S.BitOrder.form g.L.Lent.lent) l.initial.self l.yielded l.self
