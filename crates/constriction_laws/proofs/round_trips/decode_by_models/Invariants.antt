use Rattle.std.proofs.Common.{◌≡◌, ◌+◌, length, drop}
use Rattle.std.specs.Slice.Iter.{iter_rest}
use Rattle.std.specs.List.{zip}
use Rattle.constriction_laws.proofs.ListsGiven.{GavePairs}
use Rattle.constriction_laws.proofs.round_trips.decode_by_models.Given as goal

abbrev pub invariant-loop-answer : goal.invariant-loop-answer
invariant-loop-answer g l =
    (goal.iterator-loop-answer g).can_next l.answer-iterator
    × (goal.iterator-loop-answer g).is_finite l.answer-iterator
    × (l.answer-iterator.decoder.ghost_name ≡ l.initial.answer-iterator.decoder.ghost_name)
    × (iter_rest l.answer-iterator.models ≡ drop (length l.symbols.items) l.fn.models)
    × (length l.symbols.items + length (iter_rest l.answer-iterator.models) ≡ length l.fn.models)
    × GavePairs g.C.Decode.decodes g.C.Decode.halts g.row.PRECISION g.M.EntropyModel.table (zip l.symbols.items l.fn.models) l.initial.answer-iterator.decoder.now l.answer-iterator.decoder.now
