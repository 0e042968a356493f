use Rattle.std.proofs.Common.{refl}
use Rattle.constriction_models.proofs.Floating.{nearest_product}
use Rattle.constriction_models.proofs.floats.shift_to_nearest.Goals as goal

pub returns : goal.returns
returns c = nearest_product c.args.number c.args.places c.falling_power.result _ c.requires.few c.falling_power.ensures refl
