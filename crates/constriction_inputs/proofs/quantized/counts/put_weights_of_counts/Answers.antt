use Rattle.std.specs.List.{sum_by}
use Rattle.std.proofs.Common.{ℕ, ◌<◌, ◌≤◌, ◌^◌, get_or, arith, ap, rules}
use Rattle.std.proofs.Math.Pow.{pow-lt}
use Rattle.std.proofs.lemmas.List.Sums.{get_or-le-sum_by}
use Rattle.constriction_inputs.proofs.FamilyCounts.{weights_put}
use Rattle.constriction_inputs.proofs.quantized.counts.put_weights_of_counts.Goals as goal

pub put-requires-clause-fit : goal.put-requires-clause-fit
put-requires-clause-fit g c = λ k within.
    let low : get_or c.deref.result.now k 0 ≤ 2 ^ g.row.PRECISION = omega (arith, get_or-le-sum_by (λ (n : ℕ). n) c.deref.result.now k 0 within, ap (sum_by (λ (n : ℕ). n)) c.deref.ensures.value, c.in-Ok.ensures.total) in
    let high : 2 ^ g.row.PRECISION < 2 ^ g.P.Natural.BITS = pow-lt (search rules) in
    omega (arith, low, high)

pub returns-in-Ok : goal.returns-in-Ok
returns-in-Ok g c = record {
  call = weights_put g.P.Natural.number g.row.PRECISION c.args.counts.now c.args.weights.now c.put.new.weights c.in-Ok.made c.deref.result.now c.in-Ok.made.items c.deref.ensures.value c.put.ensures
      (omega (arith, c.if-weights-counts.false)) c.in-Ok.ensures.count c.in-Ok.ensures.total c.in-Ok.ensures.weights c.in-Ok.ensures.some c.in-Ok.ensures.shares c.in-Ok.ensures.largest c.in-Ok.ensures.empty c.in-Ok.ensures.too_many;
}
