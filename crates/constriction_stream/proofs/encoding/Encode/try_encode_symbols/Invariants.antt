use Rattle.std.proofs.Common.{◌+◌, ◌≤◌}
use Rattle.constriction_stream.specs.Symbols.{EncodesPair}
use Rattle.constriction_stream.specs.Lists.{TriesItem, StepsAll}
use Rattle.constriction_stream.proofs.encoding.Encode.try_encode_symbols.Given as goal

abbrev pub invariant-loop-symbol_and_model : goal.invariant-loop-symbol_and_model
invariant-loop-symbol_and_model g l =
    (goal.iterator-loop-symbol_and_model g).can_next l.symbol_and_model-iterator
    × (goal.iterator-loop-symbol_and_model g).is_finite l.symbol_and_model-iterator
    × StepsAll (TriesItem (EncodesPair g.Self.Encode.encodes g.Self.Encode.is_impossible_symbol g.row.PRECISION g.M.EntropyModel.table g.S.Lent.lent)) l.initial.self l.yielded l.self
    × (g.Self.Encode.counts_symbols → (goal.iterator-loop-symbol_and_model g).remaining l.symbol_and_model-iterator ≤ g.Self.Encode.symbols_left l.self)
    × (g.Self.Encode.symbols_left l.initial.self + (goal.iterator-loop-symbol_and_model g).remaining l.symbol_and_model-iterator
    ≤ g.Self.Encode.symbols_left l.self + (goal.iterator-loop-symbol_and_model g).remaining l.initial.symbol_and_model-iterator)
