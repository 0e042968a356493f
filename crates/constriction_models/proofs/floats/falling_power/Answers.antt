use Rattle.std.proofs.Common.{arith}
use Rattle.constriction_models.proofs.Floating.{falling, falling_at}
use Rattle.constriction_models.proofs.floats.falling_power.Goals as goal

pub returns : goal.returns
unfolding falling
returns c = falling_at 64 63 c.args.places (omega (arith, c.requires))
