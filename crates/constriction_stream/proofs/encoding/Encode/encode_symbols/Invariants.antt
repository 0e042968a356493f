use Rattle.std.proofs.Common.{◌+◌, ◌≤◌}
use Rattle.constriction_stream.specs.Symbols.{EncodesPair}
use Rattle.constriction_stream.specs.Lists.{StepsAll}
use Rattle.constriction_stream.proofs.encoding.Encode.encode_symbols.Given as goal

abbrev pub invariant-loop-symbol : goal.invariant-loop-symbol
invariant-loop-symbol g l =
    (goal.iterator-loop-symbol g).can_next l.symbol-iterator
    × (goal.iterator-loop-symbol g).is_finite l.symbol-iterator
    × StepsAll (EncodesPair g.Self.Encode.encodes g.Self.Encode.is_impossible_symbol g.row.PRECISION g.M.EntropyModel.table g.S.Lent.lent) l.initial.self l.yielded l.self
    × (g.Self.Encode.counts_symbols → (goal.iterator-loop-symbol g).remaining l.symbol-iterator ≤ g.Self.Encode.symbols_left l.self)
    × (g.Self.Encode.symbols_left l.initial.self + (goal.iterator-loop-symbol g).remaining l.symbol-iterator
    ≤ g.Self.Encode.symbols_left l.self + (goal.iterator-loop-symbol g).remaining l.initial.symbol-iterator)
