use Rattle.std.specs.Prelude.{ℕ, ◌<◌, length}
use Rattle.std.proofs.Common.{arith}
use Rattle.std.proofs.lemmas.List.Sums.{sum_by_more_le}
use Rattle.constriction_models.proofs.Sharing.{sum_within}
use Rattle.constriction_models.proofs.floats.sum_of.Goals as goal

pub overflow_add-total : goal.overflow_add-total
overflow_add-total c =
    let counts = c.args.counts.now in
    let inside : c.loop-count.count-index < length counts = omega arith in
    let most = sum_within (λ (x : ℕ). x) 4294967295 counts (λ k h. omega (arith, c.type_inv.counts k)) in
    omega (arith, c.loop-count.invariant, most, sum_by_more_le (λ (x : ℕ). x) counts c.loop-count.count-index 0 inside)
