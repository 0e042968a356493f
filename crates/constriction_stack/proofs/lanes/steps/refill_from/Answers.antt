use Rattle.std.proofs.Common.{arith, ◌∙◌, ◌-◌, ◌^◌, ◌<◌, sym, inl, inr}
use Rattle.std.proofs.lemmas.Bool.{and_cases, and_parts, false≢true, ltb-false, ltb-true}
use Rattle.std.proofs.Math.Nat.{mod-eq_of_lt}
use Rattle.constriction_base.proofs.Heads.{large_of_shr, small_of_shr}
use Rattle.constriction_stack.proofs.Pushing.{refilled_full, refilled_low}
use Rattle.constriction_stack.proofs.LaneWords.{none_in, room_for_low, stack_in, top_in}
use Rattle.constriction_stack.proofs.lanes.steps.refill_from.Goals as goal

pub shift_left-requires-clause-fits : goal.shift_left-requires-clause-fits
shift_left-requires-clause-fits g c =
    let room = room_for_low g.State.Natural.BITS g.Word.Natural.BITS (g.State.Natural.number c.args.head) (g.Word.Natural.number c.index-words-top.result) (omega (arith, c.requires.sizes.two_words)) (g.met.Word.Natural.number_law _) in
    rw (c.low_bits.ensures, c.BITS.ensures, c.BITS-2.ensures, c.BITS-3.ensures) (omega (arith, room))

pub plus-moved-requires : goal.plus-moved-requires
plus-moved-requires g c =
    let room = room_for_low g.State.Natural.BITS g.Word.Natural.BITS (g.State.Natural.number c.args.head) (g.Word.Natural.number c.index-words-top.result) (omega (arith, c.requires.sizes.two_words)) (g.met.Word.Natural.number_law _) in
    rw (c.shift_left.ensures, c.low_bits.ensures, c.BITS.ensures, c.BITS-2.ensures, c.BITS-3.ensures, c.widen.ensures) room

pub returns-then-takes-clause-state : goal.returns-then-takes-clause-state
returns-then-takes-clause-state g c =
    let w = g.Word.Natural.BITS in
    let s = g.State.Natural.BITS in
    let x = g.State.Natural.number c.args.head in
    let v = g.Word.Natural.number c.index-words-top.result in
    let both = and_parts _ _ c.if-takes.true in
    let some = ltb-true _ _ both.1 in
    let is = rw (c.BITS.ensures, c.BITS-2.ensures) at c.shift_right.ensures in
    let low : x < 2 ^ (s - w) = small_of_shr _ _ (sym is ∙ c.is_nothing.ensures.0 both.0) in
    let new = rw (c.shift_left.ensures, c.low_bits.ensures, c.BITS.ensures, c.BITS-2.ensures, c.BITS-3.ensures, c.widen.ensures, mod-eq_of_lt low) at c.plus-moved.ensures in
    let top = top_in g.Word.Natural.number c.args.words.now c.args.len c.index-words-top.result some c.requires.within (rw c.saturating_sub-top.ensures at c.index-words-top.is) in
    rw (top, new, c.saturating_sub-top.ensures) (sym (refilled_low w s x v (stack_in g.Word.Natural.number c.args.words.now (c.args.len - 1)) low))

pub returns-else-takes-clause-state : goal.returns-else-takes-clause-state
returns-else-takes-clause-state g c =
    let is = rw (c.BITS.ensures, c.BITS-2.ensures) at c.shift_right.ensures in
    let all = stack_in g.Word.Natural.number c.args.words.now c.args.len in
    sym (refilled_full g.Word.Natural.BITS g.State.Natural.BITS (g.State.Natural.number c.args.head) all (elim (and_cases _ _ c.if-takes.false) [
      | inl high ↦ inl (large_of_shr _ _ (λ e. false≢true (sym high ∙ c.is_nothing.ensures.1 (is ∙ e))))
      | inr none ↦ inr (none_in g.Word.Natural.number c.args.words.now c.args.len (omega (arith, ltb-false _ _ none)))
    ]))
