use Rattle.std.specs.Prelude.{◌%◌}
use Rattle.std.proofs.Common.{arith}
use Rattle.constriction_models.proofs.Floating.{sign_cleared, scale_rises, scaled_fits, scaled_result, scaled_limit}
use Rattle.constriction_models.proofs.floats.Scale.count.Goals as goal
use Rattle.constriction_models.proofs.floats.Scale.count.Goals.{After-shift_to_nearest}

pub overflow_sub-self : goal.overflow_sub-self
overflow_sub-self c =
    let s = c.args.self.now in
    let below = scale_rises s.most s.bits s.lift s.rise (c.args.float % 9223372036854775808) s.scaled (omega (arith, (sign_cleared s.most s.bits s.lift s.rise c.args.float s.scaled c.requires), c.requires)) in
    omega (arith, below, c.read_exponent.ensures)

pub shift_to_nearest-requires-clause-small : goal.shift_to_nearest-requires-clause-small
shift_to_nearest-requires-clause-small c =
    let s = c.args.self.now in
    scaled_fits s.most s.bits s.lift s.rise c.args.float _ _ s.scaled c.requires (sign_cleared s.most s.bits s.lift s.rise c.args.float s.scaled c.requires) c.read_significand.ensures

pub returns-clause-count : goal.returns-clause-count
returns-clause-count c =
    let s = c.args.self.now in
    scaled_result s.most s.bits s.lift s.rise c.args.float _ _ _ _ _ s.scaled c.requires (sign_cleared s.most s.bits s.lift s.rise c.args.float s.scaled c.requires) c.read_significand.ensures c.read_exponent.ensures c.min-places.ensures c.shift_to_nearest.ensures

pub returns-clause-fits : goal.returns-clause-fits
returns-clause-fits c =
    let s = c.args.self.now in
    scaled_limit s.most s.bits s.lift s.rise c.args.float _ s.scaled c.requires (returns-clause-count c)
