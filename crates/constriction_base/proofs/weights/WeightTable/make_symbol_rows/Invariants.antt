use Rattle.std.proofs.Common.{◌≡◌, ◌^◌, length, map, vec_len, vec_capacity}
use Rattle.constriction_base.specs.Reciprocals.{AreSymbolRows}
use Rattle.constriction_base.proofs.weights.WeightTable.make_symbol_rows.Given as goal

abbrev pub invariant-loop-symbol : goal.invariant-loop-symbol
invariant-loop-symbol g l =
    let number = g.Probability.Natural.number in
    record {
      capacity : vec_capacity l.made ≡ length l.self.starts.items;
      counted : vec_len l.made ≡ l.symbol;
      are : AreSymbolRows number (map number l.self.starts.items) (2 ^ g.row.PRECISION) l.made.items;
    }
