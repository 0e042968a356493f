use Rattle.std.proofs.Common.{◌<◌, arith}
use Rattle.constriction_inputs.proofs.CountTables.{tables_counted}
use Rattle.constriction_inputs.proofs.MixtureTables.{row_ends}
use Rattle.constriction_inputs.proofs.models.counts.CountListDecoderModelList.select.Goals as goal

pub row_at-counts-requires : goal.row_at-counts-requires
row_at-counts-requires g c =
    let list = c.args.self.now in
    let at : c.args.place < list.count = omega (arith, c.requires, tables_counted g.row.PRECISION list.width list.counts.now list.count) in
    omega (arith, list.counted, row_ends list.width c.args.place list.count at)

pub invariant_of-self : goal.invariant_of-self
invariant_of-self g c =
    let list = c.args.self.now in
    let at : c.args.place < list.count = omega (arith, c.requires, tables_counted g.row.PRECISION list.width list.counts.now list.count) in
    record { positive = list.positive; fits = list.fits; made = rw c.row_at-counts.ensures (list.rows c.args.place at) }
