use Rattle.std.specs.Prelude.{ℕ, ◌<◌, ◌≤◌, ◌/◌, length, slice_index}
use Rattle.std.proofs.Common.{arith}
use Rattle.std.proofs.lemmas.List.Sums.{sum_by_more_le}
use Rattle.constriction_models.proofs.Sharing.{sum_within}
use Rattle.constriction_models.proofs.categorical.sum_of_high.Goals as goal

pub overflow_add-total : goal.overflow_add-total
overflow_add-total c =
    let counts = c.args.counts.now in
    let inside : c.loop-count.count-index < length counts = omega arith in
    let most = sum_within (λ (x : ℕ). x / 65536) 65535 counts (λ k h. omega (arith, c.type_inv.counts k)) in
    omega (arith, c.loop-count.invariant, c.requires, most, sum_by_more_le (λ (x : ℕ). x / 65536) counts c.loop-count.count-index 0 inside)
