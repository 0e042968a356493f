use Rattle.std.specs.Prelude.{◌≡◌, ℕ, ◌<◌, length, slice_index}
use Rattle.std.proofs.Common.{rules, inl, inr, arith}
use Rattle.std.proofs.lemmas.Bool.{cases_lt}
use Rattle.constriction_models.proofs.Sharing.{kept_fit, kept_all, ones_fit, positive_few}
use Rattle.constriction_models.specs.Counts.{positive, kept}
use Rattle.std.proofs.lemmas.List.Sums.{sum_by_more, sum_by_more_le, sum_by-take-le}
use Rattle.constriction_models.proofs.counts.survey.Goals as goal

pub overflow_add-positives : goal.overflow_add-positives
overflow_add-positives c =
    let inside : c.loop-count.count-index < length c.args.counts.now = omega arith in
    omega (arith, c.positive-positives.ensures, c.loop-count.invariant.positives, ones_fit positive c.args.counts.now c.loop-count.count-index positive_few inside)

pub overflow_add-sum : goal.overflow_add-sum
overflow_add-sum c =
    let inside : c.loop-count.count-index < length c.args.counts.now = omega arith in
    omega (arith, kept_all (slice_index c.args.counts.now c.loop-count.count-index), c.loop-count.invariant.total, kept_fit 1 c.args.counts.now (λ k. omega (arith, c.type_inv.counts k)) (omega arith), sum_by_more_le (kept 1) c.args.counts.now c.loop-count.count-index 0 inside)

pub returns-clause-fits : goal.returns-clause-fits
returns-clause-fits c =
    let all = kept_fit 1 c.args.counts.now (λ k. omega (arith, c.type_inv.counts k)) (omega arith) in
    omega (arith, c.loop-count.invariant.total, all, sum_by-take-le (kept 1) c.args.counts.now c.loop-count.count-index)

pub loop-count-preserved : goal.loop-count-preserved
loop-count-preserved c =
    let xs = c.args.counts.now in
    let i : ℕ = c.loop-count.count-index in
    let inside : i < length xs = omega arith in
    record {
      positives = omega (arith, c.positive-positives.ensures, c.loop-count.invariant.positives, sum_by_more positive xs i 0 inside);
      bound = search rules;
      reached = λ some. elim (cases_lt (slice_index xs i) c.loop-count.most) [
        | inl less ↦ (
            let old = c.loop-count.invariant.reached (omega (arith, less)) in
            (old.0, old.1, omega (arith, old.2, less, c.max-most.ensures)))
        | inr from ↦ (i, inside, omega (arith, from, c.max-most.ensures))
      ];
      least = λ k before some. elim (cases_lt k i) [
        | inl old ↦ omega (arith, c.loop-count.invariant.least k old some, c.min-least.ensures)
        | inr new ↦ (
            let here : k ≡ i = omega (arith, before, new) in
            rw here (omega (arith, c.min-least.ensures, c.most_if_zero.ensures.some (rw here at some))))
      ];
      total = omega (arith, c.loop-count.invariant.total, kept_all (slice_index xs i), sum_by_more (kept 1) xs i 0 inside);
    }
