use Rattle.std.proofs.Common.{◌≡◌, ◌<◌, length, take, sum_by, ap, refl, arith}
use Rattle.std.proofs.lemmas.List.Sums.{sum_by_more, sum_by_more_le}
use Rattle.std.proofs.lemmas.List.{take_all}
use Rattle.constriction_symbol.proofs.huffman.merging.total_fits.Goals as goal

pub returns-then-is_below : goal.returns-then-is_below
returns-then-is_below g c =
    let n = g.P.Natural.number in
    let inside : c.loop-weight.weight-index < length c.args.weights.now = omega (arith, c.loop-weight-test.true) in
    let above : n c.minus.result < n c.weight-item.result = c.is_below.ensures.0 c.if-is_below.true in
    let within = sum_by_more_le n c.args.weights.now c.loop-weight.weight-index c.weight-item.result inside in
    (λ never. absurd cc, λ fits. absurd (omega (arith, fits, within, above, c.minus.ensures, c.greatest.ensures, c.loop-weight.invariant, ap n c.weight-item.is)))

pub plus-total-requires : goal.plus-total-requires
plus-total-requires g c =
    let n = g.P.Natural.number in
    let below : n c.minus.result < n c.weight-item.result → ⊥ = λ h. let is = c.is_below.ensures.1 h in let no = c.if-is_below.false in cc in
    omega (arith, below, c.minus.ensures, c.greatest.ensures, g.met.P.Natural.number_law c.loop-weight.total)

pub loop-weight-preserved : goal.loop-weight-preserved
loop-weight-preserved g c =
    let n = g.P.Natural.number in
    let inside : c.loop-weight.weight-index < length c.args.weights.now = omega (arith, c.loop-weight-test.true) in
    omega (arith, c.plus-total.ensures, c.loop-weight.invariant, ap n c.weight-item.is, sum_by_more n c.args.weights.now c.loop-weight.weight-index c.weight-item.result inside)

pub returns : goal.returns
returns g c =
    let n = g.P.Natural.number in
    let all : take c.loop-weight.weight-index c.args.weights.now ≡ c.args.weights.now = take_all c.loop-weight.weight-index c.args.weights.now (omega (arith, c.loop-weight-test.false)) in
    let small = g.met.P.Natural.number_law c.loop-weight.total in
    (λ is. omega (arith, small, c.loop-weight.invariant, ap (sum_by n) all), λ fits. refl)
