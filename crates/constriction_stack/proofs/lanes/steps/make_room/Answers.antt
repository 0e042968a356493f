use Rattle.std.proofs.Common.{refl, inl, inr}
use Rattle.constriction_stack.proofs.Coders.{not_less}
use Rattle.constriction_stack.proofs.lanes.steps.make_room.Goals as goal

pub returns-then-is_below : goal.returns-then-is_below
returns-then-is_below g c =
    let is = rw c.BITS-2.ensures at c.shift_right.ensures in
    inl (rw is at (c.if-is_below.ensures.0 refl), refl, refl)

pub returns-else-is_below : goal.returns-else-is_below
returns-else-is_below g c =
    let is = rw c.BITS-2.ensures at c.shift_right.ensures in
    inr (not_less _ _ (λ less. let high = c.if-is_below.ensures.1 (rw is less) in cc), rw c.BITS.ensures at c.shift_right-above.ensures, refl)
