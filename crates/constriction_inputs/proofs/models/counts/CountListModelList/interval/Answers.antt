use Rattle.std.proofs.Common.{◌<◌, ℕ, List, [], arith, subst, sym}
use Rattle.constriction_base.specs.Tables.{Impossible}
use Rattle.constriction_inputs.proofs.CountTables.{entry_listed, table_at, tables_counted}
use Rattle.constriction_inputs.proofs.MixtureTables.{row_ends}
use Rattle.constriction_inputs.proofs.models.counts.CountListModelList.interval.Goals as goal

pub row_at-row-requires : goal.row_at-row-requires
row_at-row-requires g c =
    let list = c.args.self.now in
    let at : c.args.place < list.count = omega (arith, c.requires, tables_counted g.row.PRECISION list.width list.counts.now list.count) in
    omega (arith, list.counted, row_ends list.width c.args.place list.count at)

pub interval_of-requires-clause-counts : goal.interval_of-requires-clause-counts
interval_of-requires-clause-counts g c =
    let list = c.args.self.now in
    let at : c.args.place < list.count = omega (arith, c.requires, tables_counted g.row.PRECISION list.width list.counts.now list.count) in
    rw c.row_at-row.ensures (list.rows c.args.place at)

pub returns-in-Some-clause-found : goal.returns-in-Some-clause-found
returns-in-Some-clause-found g c =
    let list = c.args.self.now in
    let at : c.args.place < list.count = omega (arith, c.requires, tables_counted g.row.PRECISION list.width list.counts.now list.count) in
    entry_listed g.row.PRECISION list.width list.counts.now list.count c.args.place _ c.args.symbol _ _ at list.positive list.fits.1 (list.rows c.args.place at) (rw c.row_at-row.ensures at c.in-Some.ensures.found)

pub returns-in-None-clause-impossible : goal.returns-in-None-clause-impossible
returns-in-None-clause-impossible g c =
    let list = c.args.self.now in
    let at : c.args.place < list.count = omega (arith, c.requires, tables_counted g.row.PRECISION list.width list.counts.now list.count) in
    subst (λ (t : List (ℕ × ℕ × ℕ)). Impossible t c.args.symbol) (sym (table_at g.row.PRECISION list.width list.counts.now list.count c.args.place [] at)) (rw c.row_at-row.ensures at c.in-None.ensures.impossible)
