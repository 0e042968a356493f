use Rattle.std.proofs.Common.{◌*◌}
use Rattle.constriction_inputs.proofs.RowTables.{row_numbers}
use Rattle.constriction_inputs.proofs.models.indexed.weights_at.Goals as goal

pub returns : goal.returns
returns g c = row_numbers g.P.Natural.number c.args.weights.now (c.args.width * c.args.index) c.args.width
