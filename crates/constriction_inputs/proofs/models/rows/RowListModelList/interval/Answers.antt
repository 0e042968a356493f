use Rattle.std.proofs.Common.{◌+◌, ◌*◌, ◌<◌, ◌≤◌, ℕ, List, [], arith, length, map, rules, subst}
use Rattle.constriction_base.specs.Tables.{Impossible}
use Rattle.constriction_inputs.specs.Items.{IsEntryOf}
use Rattle.constriction_inputs.specs.Mixtures.{row_at_index}
use Rattle.constriction_inputs.specs.Weights.{IsTotal}
use Rattle.constriction_inputs.proofs.MixtureTables.{row_ends}
use Rattle.constriction_inputs.proofs.RowTables.{row_table_is, row_within}
use Rattle.constriction_inputs.proofs.models.rows.RowListModelList.interval.Goals as goal

pub row_at-row-requires : goal.row_at-row-requires
row_at-row-requires g c =
    let list = c.args.self.now in
    let at : c.args.place < list.count = row_within (map g.P.Natural.number list.weights.now) list.width list.count c.args.place c.requires in
    let ends : list.width * c.args.place + list.width ≤ length list.weights.now = omega (arith, list.counted, row_ends list.width c.args.place list.count at) in
    let total : IsTotal g.row.PRECISION (row_at_index list.width c.args.place (map g.P.Natural.number list.weights.now)) = list.totals c.args.place at in
    search rules

pub returns-in-Some-clause-found : goal.returns-in-Some-clause-found
returns-in-Some-clause-found g c =
    let list = c.args.self.now in
    let is = row_table_is (map g.P.Natural.number list.weights.now) list.width list.count c.args.place c.requires _ [] c.row_at-row.ensures in
    subst (λ (t : List (ℕ × ℕ × ℕ)). IsEntryOf g.row.PRECISION g.P.Natural.BITS t c.args.symbol (g.P.Natural.number c.in-Some.found.0) (g.P.BitArray.nonzero_number c.in-Some.found.1)) is c.in-Some.ensures.found

pub returns-in-None-clause-impossible : goal.returns-in-None-clause-impossible
returns-in-None-clause-impossible g c =
    let list = c.args.self.now in
    let is = row_table_is (map g.P.Natural.number list.weights.now) list.width list.count c.args.place c.requires _ [] c.row_at-row.ensures in
    subst (λ (t : List (ℕ × ℕ × ℕ)). Impossible t c.args.symbol) is c.in-None.ensures.impossible
