use Rattle.std.specs.Prelude.{◌≡◌, ℕ, ◌+◌, ◌-◌, ◌*◌, ◌/◌, ◌<◌, ◌≤◌, List}
use Rattle.std.specs.List.{sum_by}
use Rattle.std.proofs.Common.{refl, sym, arith}
use Rattle.constriction_models.proofs.Sharing.{within_most, most_positive, one_raises_none, rounded_up, rounded_least, next_fair, other_reaches}
use Rattle.constriction_models.specs.Counts.{positive, kept, IsGreatest, IsLimit, IsSplit}
use Rattle.std.proofs.Math.Nat.{mul-le-mul_right}
use Rattle.constriction_models.proofs.counts.split_at_least_limit.Goals as goal

-- while the limit is at most the greatest count, some counts are kept and some mass is left
in_search : (counts : List ℕ) (all limit most raised_count kept_sum : ℕ) → 1 ≤ limit → limit ≤ most → IsGreatest counts most → sum_by positive counts ≤ all → IsSplit counts limit raised_count kept_sum
    → (0 < sum_by (kept limit) counts) × (raised_count < all) × (kept_sum ≤ (all - raised_count) * most)
in_search counts all limit most raised_count kept_sum some low is room split =
    let reached = is.reached (omega arith) in
    let w = within_most counts all limit most reached.0 some low is.bound reached.1 reached.2 room in
    (w.any, omega (arith, w.room, split.raised_is), rw (split.raised_is, split.kept_is) w.reaches)

pub loop-split-init : goal.loop-split-init
loop-split-init c = record {
  split = record { raised_is = sym (one_raises_none c.args.counts.now); kept_is = c.requires.total };
  fits = c.requires.fits;
  some = omega arith;
  within = omega (arith, most_positive c.args.counts.now c.args.most c.requires.most.bound c.requires.some);
  least = λ other is. is.some;
  fair = λ _ k inside some. some;
}

pub overflow_sub-mass : goal.overflow_sub-mass
overflow_sub-mass c =
    let i = c.loop-split.invariant in
    let n = in_search c.args.counts.now c.args.all c.loop-split.split.limit c.args.most c.loop-split.split.raised c.loop-split.split.rest i.some i.within c.requires.most c.requires.enough i.split in
    omega (arith, n.1)

pub overflow_sub-next : goal.overflow_sub-next
overflow_sub-next c =
    let i = c.loop-split.invariant in
    let n = in_search c.args.counts.now c.args.all c.loop-split.split.limit c.args.most c.loop-split.split.raised c.loop-split.split.rest i.some i.within c.requires.most c.requires.enough i.split in
    omega (arith, n.1)

pub nonzero_div-next : goal.nonzero_div-next
nonzero_div-next c =
    let i = c.loop-split.invariant in
    let n = in_search c.args.counts.now c.args.all c.loop-split.split.limit c.args.most c.loop-split.split.raised c.loop-split.split.rest i.some i.within c.requires.most c.requires.enough i.split in
    omega (arith, n.1)

-- a limit whose kept counts reach it is one
limit_is : (counts : List ℕ) (all limit raised_count kept_sum : ℕ) → 1 ≤ limit → 0 < sum_by (kept limit) counts → raised_count < all → kept_sum ≤ limit * (all - raised_count) → IsSplit counts limit raised_count kept_sum → IsLimit counts all limit
limit_is counts all limit raised_count kept_sum some any room reaches split =
    record { some = some; any = any; room = omega (arith, room, split.raised_is); reaches = rw (split.raised_is, split.kept_is) at reaches }

pub returns-then-next-split-clause-least : goal.returns-then-next-split-clause-least
returns-then-next-split-clause-least c =
    let i = c.loop-split.invariant in
    let n = in_search c.args.counts.now c.args.all c.loop-split.split.limit c.args.most c.loop-split.split.raised c.loop-split.split.rest i.some i.within c.requires.most c.requires.enough i.split in
    let rest : ℕ = c.loop-split.split.rest in
    let mass : ℕ = c.args.all - c.loop-split.split.raised in
    let some : 0 < mass = omega (arith, n.1) in
    let up : rest ≤ (rest + mass - 1) / mass * mass = rounded_up rest mass ((rest + mass - 1) / mass) some refl in
    let least : (rest + mass - 1) / mass ≤ c.loop-split.split.limit = c.if-next-split.true in
    let reaches : rest ≤ c.loop-split.split.limit * mass = omega (arith, up, mul-le-mul_right mass least) in
    record { is_limit = limit_is c.args.counts.now c.args.all c.loop-split.split.limit c.loop-split.split.raised rest i.some n.0 n.1 reaches i.split; least = i.least }

pub overflow_cast-next : goal.overflow_cast-next
overflow_cast-next c =
    let i = c.loop-split.invariant in
    let n = in_search c.args.counts.now c.args.all c.loop-split.split.limit c.args.most c.loop-split.split.raised c.loop-split.split.rest i.some i.within c.requires.most c.requires.enough i.split in
    let rest : ℕ = c.loop-split.split.rest in
    let mass : ℕ = c.args.all - c.loop-split.split.raised in
    let some : 0 < mass = omega (arith, n.1) in
    omega (arith, c.ranges.most.fits, rounded_least rest mass ((rest + mass - 1) / mass) c.args.most some refl n.2)

pub loop-split-preserved : goal.loop-split-preserved
loop-split-preserved c =
    let i = c.loop-split.invariant in
    let n = in_search c.args.counts.now c.args.all c.loop-split.split.limit c.args.most c.loop-split.split.raised c.loop-split.split.rest i.some i.within c.requires.most c.requires.enough i.split in
    let rest : ℕ = c.loop-split.split.rest in
    let mass : ℕ = c.args.all - c.loop-split.split.raised in
    let next : ℕ = (rest + mass - 1) / mass in
    let some : 0 < mass = omega (arith, n.1) in
    let made = c.split_from-split.ensures in
    let most = rounded_least rest mass next c.args.most some refl n.2 in
    record {
      split = rw made.value made.total;
      fits = made.fits;
      some = omega (arith, made.value, c.if-next-split.false);
      within = omega (arith, made.value, most);
      least = λ other is. omega (arith, made.value, rounded_least rest mass next other some refl (rw (i.split.raised_is, i.split.kept_is) (other_reaches c.args.counts.now c.args.all c.loop-split.split.limit other i.some (i.least other is) (omega (arith, n.1, i.split.raised_is)) is)));
      fair = λ share k inside any. omega (arith, made.value, next_fair c.args.counts.now c.args.all c.loop-split.split.limit next (omega (arith, c.requires.some, c.requires.enough)) i.some share (i.fair share) (rw (i.split.raised_is, i.split.kept_is) refl) k inside any);
    }

pub returns-clause-least : goal.returns-clause-least
returns-clause-least c =
    let i = c.loop-split.invariant in
    let n = in_search c.args.counts.now c.args.all c.loop-split.split.limit c.args.most c.loop-split.split.raised c.loop-split.split.rest i.some i.within c.requires.most c.requires.enough i.split in
    let most : c.loop-split.split.limit ≡ c.args.most = omega (arith, i.within, c.loop-split-test.false) in
    let reaches : c.loop-split.split.rest ≤ c.loop-split.split.limit * (c.args.all - c.loop-split.split.raised) = rw most (omega (arith, n.2)) in
    record { is_limit = limit_is c.args.counts.now c.args.all c.loop-split.split.limit c.loop-split.split.raised c.loop-split.split.rest i.some n.0 n.1 reaches i.split; least = i.least }
