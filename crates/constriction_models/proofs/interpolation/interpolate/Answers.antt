use Rattle.std.specs.Prelude.{◌≡◌, ◌*◌, ◌/◌, pos, ◌+ℤ◌, ◌-ℤ◌, ◌<ℤ◌, ◌≤ℤ◌, nat_abs}
use Rattle.std.proofs.Common.{arith, rules, sym, ap, ◌∙◌, to_z, of_z}
use Rattle.std.proofs.lemmas.Int.{ints, to_z-of_z}
use mir.Syntax.{w128}
use Rattle.constriction_models.proofs.Signed.{is_natural, natural_below}
use Rattle.constriction_models.specs.Interpolation.{interpolate, value_at, value_beyond}
use Rattle.constriction_models.specs.laws.Interpolating.{beyond_none, beyond_all, beyond_inside, product_fits, place_within}
use Rattle.constriction_models.proofs.interpolation.interpolate.Goals as goal

pub returns-then-far-lt0 : goal.returns-then-far-lt0
unfolding interpolate
returns-then-far-lt0 c =
    let z = c.far_above-far.result in
    let is : z ≡ c.args.place -ℤ c.args.middle +ℤ pos (c.args.wide / 2) = omega (arith, ints) in
    let low : z <ℤ pos 0 = grind (arith, ints) in
    sym (rw is at (beyond_none c.args.values.now c.args.wide c.args.rate z low))

pub returns-then-far-wide : goal.returns-then-far-wide
unfolding interpolate
returns-then-far-wide c =
    let z = c.far_above-far.result in
    let is : z ≡ c.args.place -ℤ c.args.middle +ℤ pos (c.args.wide / 2) = omega (arith, ints) in
    let high : pos c.args.wide ≤ℤ z = grind (arith, ints) in
    sym (rw is at (beyond_all c.args.values.now c.args.wide c.args.rate z high))

pub overflow_mul-far : goal.overflow_mul-far
overflow_mul-far c =
    let z = c.far_above-far.result in
    let same : to_z w128 (of_z w128 z) ≡ z = to_z-of_z w128 z (search rules) in
    let some : pos 0 ≤ℤ z = grind (arith, ints) in
    let less : z <ℤ pos c.args.wide = grind (arith, ints) in
    rw same (omega (arith, product_fits c.args.wide c.args.rate (nat_abs z) c.requires.fits (natural_below z c.args.wide some less)))

pub value_at-requires-clause-within : goal.value_at-requires-clause-within
value_at-requires-clause-within c =
    let z = c.far_above-far.result in
    let same : to_z w128 (of_z w128 z) ≡ z = to_z-of_z w128 z (search rules) in
    let some : pos 0 ≤ℤ z = grind (arith, ints) in
    let less : z <ℤ pos c.args.wide = grind (arith, ints) in
    rw same (place_within c.args.wide c.args.rate (nat_abs z) c.requires.fits (natural_below z c.args.wide some less))

pub returns : goal.returns
unfolding interpolate
returns c =
    let z = c.far_above-far.result in
    let is : z ≡ c.args.place -ℤ c.args.middle +ℤ pos (c.args.wide / 2) = omega (arith, ints) in
    let same : to_z w128 (of_z w128 z) ≡ z = to_z-of_z w128 z (search rules) in
    let some : pos 0 ≤ℤ z = grind (arith, ints) in
    let less : z <ℤ pos c.args.wide = grind (arith, ints) in
    let inside = beyond_inside c.args.values.now c.args.wide c.args.rate z (nat_abs z) (is_natural z some) (natural_below z c.args.wide some less) in
    let value : c.value_at.result ≡ value_at c.args.values.now (nat_abs z * c.args.rate / 68719476736) = rw same at c.value_at.ensures in
    value ∙ sym inside ∙ ap (value_beyond c.args.values.now c.args.wide c.args.rate) is
