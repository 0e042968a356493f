use Rattle.std.proofs.Common.{◌+◌, ◌≤◌}
use Rattle.constriction_stream.specs.Symbols.{EncodesSymbol}
use Rattle.constriction_stream.specs.Lists.{StepsAll}
use Rattle.constriction_stream.proofs.encoding.reverse.EncodeReverse.encode_iid_symbols_reverse.Given as goal

abbrev pub invariant-loop-symbol : goal.invariant-loop-symbol
invariant-loop-symbol g l =
    (goal.iterator-loop-symbol g).can_next l.symbol-iterator
    × (goal.iterator-loop-symbol g).is_finite l.symbol-iterator
    × StepsAll (λ old symbol result new. EncodesSymbol g.Self.Encode.encodes g.Self.Encode.is_impossible_symbol g.row.PRECISION (g.M.EntropyModel.table l.model) (g.S.Lent.lent symbol) old result new) l.initial.self l.yielded l.self
    × (g.Self.Encode.counts_symbols → (goal.iterator-loop-symbol g).remaining l.symbol-iterator ≤ g.Self.Encode.symbols_left l.self)
    × (g.Self.Encode.symbols_left l.initial.self + (goal.iterator-loop-symbol g).remaining l.symbol-iterator
    ≤ g.Self.Encode.symbols_left l.self + (goal.iterator-loop-symbol g).remaining l.initial.symbol-iterator)
