use Rattle.std.proofs.Common.{◌*◌, refl}
use Rattle.constriction_inputs.proofs.MixtureTables.{row_between}
use Rattle.constriction_inputs.proofs.models.counts.row_at.Goals as goal

pub returns : goal.returns
returns c = row_between c.args.width c.args.place (c.args.width * c.args.place) c.args.counts.now refl
