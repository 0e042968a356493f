use Rattle.std.proofs.Common.{◌+◌, ◌*◌, ◌<◌, ◌≤◌, arith, length, map, rules}
use Rattle.constriction_inputs.specs.Mixtures.{row_at_index}
use Rattle.constriction_inputs.specs.Weights.{IsTotal}
use Rattle.constriction_inputs.proofs.MixtureTables.{row_ends}
use Rattle.constriction_inputs.proofs.RowTables.{row_within}
use Rattle.constriction_inputs.proofs.models.rows.RowListDecoderModelList.select.Goals as goal

pub row_at-requires : goal.row_at-requires
row_at-requires g c =
    let list = c.args.self.now in
    let at : c.args.place < list.count = row_within (map g.P.Natural.number list.weights.now) list.width list.count c.args.place c.requires in
    let ends : list.width * c.args.place + list.width ≤ length list.weights.now = omega (arith, list.counted, row_ends list.width c.args.place list.count at) in
    let total : IsTotal g.row.PRECISION (row_at_index list.width c.args.place (map g.P.Natural.number list.weights.now)) = list.totals c.args.place at in
    search rules
