use Rattle.std.proofs.Common.{◌≡◌, ◌+◌, length, drop}
use Rattle.std.specs.Slice.Iter.{iter_rest}
use Rattle.std.specs.List.{zip}
use Rattle.constriction_symbol.specs.Lists.{ReadsPairs}
use Rattle.constriction_laws.proofs.symbol.round_trips.pairs.decode_pairs.Given as goal

abbrev pub invariant-loop-answer : goal.invariant-loop-answer
invariant-loop-answer g l =
    (goal.iterator-loop-answer g).can_next l.answer-iterator
    × (goal.iterator-loop-answer g).is_finite l.answer-iterator
    × (l.answer-iterator.bit_stream.ghost_name ≡ l.initial.answer-iterator.bit_stream.ghost_name)
    × (iter_rest l.answer-iterator.codebooks ≡ drop (length l.symbols.items) l.fn.codebooks)
    × (length l.symbols.items + length (iter_rest l.answer-iterator.codebooks) ≡ length l.fn.codebooks)
    × ReadsPairs g.R.ReadBitStream.gives g.C.Codebook.codeword g.C.DecoderCodebook.reads_on g.C.DecoderCodebook.is_invalid
    (zip l.symbols.items l.fn.codebooks) l.initial.answer-iterator.bit_stream.now l.answer-iterator.bit_stream.now
