use Rattle.std.proofs.Common.{ℕ, ◌+◌, ◌-◌, ◌/◌, ◌%◌, ◌<◌, refl, slice_index, arith}
use Rattle.constriction_models.specs.Interpolation.{value_at, interpolated}
use Rattle.constriction_models.specs.laws.Interpolating.{values_around, part_fits}
use Rattle.constriction_models.proofs.interpolation.value_at.Goals as goal

pub overflow_sub-long : goal.overflow_sub-long
overflow_sub-long c = (values_around c.args.values.now c.args.place c.requires.values c.requires.within).1

pub overflow_mul-result : goal.overflow_mul-result
overflow_mul-result c =
    let values = c.args.values.now in
    let place : ℕ = c.args.place in
    let around = values_around values place c.requires.values c.requires.within in
    let long : ℕ = slice_index values (place / 65536 + 1) - slice_index values (place / 65536) in
    let part : ℕ = place % 65536 in
    let small : part < 65536 = omega arith in
    omega (arith, part_fits long part (omega (arith, around.2)) small)

pub returns : goal.returns
unfolding value_at interpolated
returns c = refl
