use Rattle.std.proofs.Common.{ℕ, List, arith, refl}
use Rattle.constriction_base.specs.Models.{Knows}
use Rattle.constriction_inputs.proofs.Pairs.{pairs_counted}
use Rattle.constriction_inputs.specs.Items.{HasInterval}
use Rattle.constriction_inputs.proofs.Places.{pair_has}
use Rattle.constriction_inputs.proofs.symbols.SymbolListItemList.interval.Goals as goal

pub number_at-symbol-requires : goal.number_at-symbol-requires
number_at-symbol-requires g c =
    let list = c.args.self.now in
    let xs = g.S.Symbol.numbers list.symbols.now in
    let tables = g.L.ModelList.tables list.models in
    omega (arith, c.requires, pairs_counted g.row.PRECISION (λ (t : List (ℕ × ℕ × ℕ)). t) xs tables, g.S.Symbol.count_law list.symbols.now)

pub interval-requires : goal.interval-requires
interval-requires g c =
    let list = c.args.self.now in
    let xs = g.S.Symbol.numbers list.symbols.now in
    let tables = g.L.ModelList.tables list.models in
    omega (arith, c.requires, pairs_counted g.row.PRECISION (λ (t : List (ℕ × ℕ × ℕ)). t) xs tables)

pub returns-in-Some-clause-found : goal.returns-in-Some-clause-found
returns-in-Some-clause-found g c =
    let list = c.args.self.now in
    let xs = g.S.Symbol.numbers list.symbols.now in
    let tables = g.L.ModelList.tables list.models in
    let count = pairs_counted g.row.PRECISION (λ (t : List (ℕ × ℕ × ℕ)). t) xs tables in
    pair_has g.row.PRECISION xs tables c.args.place (HasInterval g.row.PRECISION g.P.Natural.BITS _ _) (omega (arith, c.requires, count)) (omega (arith, c.requires, count))
    (refl, rw c.number_at-symbol.ensures at c.in-Some.ensures.found)

pub returns-in-None-clause-impossible : goal.returns-in-None-clause-impossible
returns-in-None-clause-impossible g c =
    let list = c.args.self.now in
    let xs = g.S.Symbol.numbers list.symbols.now in
    let tables = g.L.ModelList.tables list.models in
    let count = pairs_counted g.row.PRECISION (λ (t : List (ℕ × ℕ × ℕ)). t) xs tables in
    let never = rw c.number_at-symbol.ensures at c.in-None.ensures.impossible in
    pair_has g.row.PRECISION xs tables c.args.place (λ item. Knows item.model item.symbol → ⊥) (omega (arith, c.requires, count)) (omega (arith, c.requires, count))
    (λ knows. never knows.0 knows.1 knows.2)
