use Rattle.std.specs.Prelude.{◌≡◌, ◌+◌, ◌/◌, ◌<◌, ℕ, length, slice_index}
use Rattle.std.proofs.Common.{arith, rules}
use Rattle.std.proofs.lemmas.List.Sums.{sum_by_more}
use Rattle.constriction_models.specs.Counts.{rounded_share}
use Rattle.constriction_models.proofs.Floating.{put_more}
use Rattle.constriction_models.proofs.Estimating.{stays_clear, total_fits, rounded_here}
use Rattle.constriction_models.proofs.counts.estimates.round_all.Goals as goal

pub overflow_add-total : goal.overflow_add-total
overflow_add-total c =
    let i : ℕ = c.loop-i.i in
    omega (arith, c.loop-i.invariant.total, rounded_here c.args.lift (slice_index c.args.shares.now i), total_fits c.args.shares.now c.args.lift i c.requires.small c.requires.fit c.requires.short c.loop-i-test.true)

pub loop-i-preserved : goal.loop-i-preserved
loop-i-preserved c =
    let xs = c.args.shares.now in
    let i : ℕ = c.loop-i.i in
    let lift : ℕ = c.args.lift in
    let inside : i < length xs = c.loop-i-test.true in
    let w : ℕ = (slice_index xs i + lift) / 4294967296 in
    let here : w ≡ rounded_share lift (slice_index xs i) = rounded_here lift (slice_index xs i) in
    record {
      done = put_more (rounded_share lift) xs c.loop-i.weights.items i w inside (omega (arith, c.loop-i.invariant.counted, inside)) here c.loop-i.invariant.done;
      counted = search rules;
      total = omega (arith, c.loop-i.invariant.total, here, sum_by_more (rounded_share lift) xs i 0 inside);
      clear = stays_clear xs lift i c.loop-i.clear c.loop-i.invariant.clear;
    }
