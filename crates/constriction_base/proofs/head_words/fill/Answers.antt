use Rattle.std.proofs.Common.{arith, ◌∙◌, refl, sym, ◌≡◌, ℕ, ◌/◌, ◌^◌, ◌≤◌, ap}
use Rattle.std.proofs.lemmas.Bool.{false≢true}
use Rattle.constriction_base.proofs.Exporting.{word_grows}
use Rattle.constriction_base.proofs.Heads.{large_of_shr, small_of_shr}
use Rattle.constriction_base.proofs.MovingIn.{moves_more, room_below}
use Rattle.constriction_base.proofs.head_words.fill.Goals as goal

-- where a shift of a head leaves nothing, it isn't one that came far enough
not_far : {H : Type 0} (number : H → ℕ) (full head : H) (bits : ℕ) → 2 ^ bits ≤ number head → full ≡ head → number full / 2 ^ bits ≡ 0 → ⊥
not_far number full head bits far same none = omega (arith, far, ap number same, small_of_shr (number full) bits none)

pub shift_left-requires-clause-fits : goal.shift_left-requires-clause-fits
shift_left-requires-clause-fits g c =
    let none = sym c.shift_right.ensures ∙ c.loop-bulk-test.ensures.0 refl in
    let room = room_below c.args.bits g.Word.Natural.BITS g.State.Natural.BITS (g.State.Natural.number c.loop-bulk.full) (g.Word.Natural.number c.in-Ok-Some.word) c.requires.within none (g.met.Word.Natural.number_law _) in
    rw c.BITS.ensures (omega (arith, room.1))

pub plus-full-requires : goal.plus-full-requires
plus-full-requires g c =
    let none = sym c.shift_right.ensures ∙ c.loop-bulk-test.ensures.0 refl in
    let room = room_below c.args.bits g.Word.Natural.BITS g.State.Natural.BITS (g.State.Natural.number c.loop-bulk.full) (g.Word.Natural.number c.in-Ok-Some.word) c.requires.within none (g.met.Word.Natural.number_law _) in
    rw (c.shift_left.ensures, c.BITS.ensures, c.widen.ensures) room.1

pub loop-bulk-smaller : goal.loop-bulk-smaller
loop-bulk-smaller g c =
    let none = sym c.shift_right.ensures ∙ c.loop-bulk-test.ensures.0 refl in
    let room = room_below c.args.bits g.Word.Natural.BITS g.State.Natural.BITS (g.State.Natural.number c.loop-bulk.full) (g.Word.Natural.number c.in-Ok-Some.word) c.requires.within none (g.met.Word.Natural.number_law _) in
    let grows = word_grows g.Word.Natural.BITS (g.State.Natural.number c.loop-bulk.full) (g.Word.Natural.number c.in-Ok-Some.word) c.requires.some_bits c.loop-bulk.invariant.some in
    rw (c.plus-full.ensures, c.shift_left.ensures, c.BITS.ensures, c.widen.ensures) (omega (arith, room.1, grows))

pub loop-bulk-preserved : goal.loop-bulk-preserved
loop-bulk-preserved g c =
    let w = g.Word.Natural.BITS in
    let n = g.State.Natural.number c.loop-bulk.full in
    let word = c.in-Ok-Some.word in
    let none = sym c.shift_right.ensures ∙ c.loop-bulk-test.ensures.0 refl in
    let room = room_below c.args.bits w g.State.Natural.BITS n (g.Word.Natural.number word) c.requires.within none (g.met.Word.Natural.number_law _) in
    let grows = word_grows w n (g.Word.Natural.number word) c.requires.some_bits c.loop-bulk.invariant.some in
    let reads = rw c.in-Ok-Some.field-0-is at c.in-Ok-Some.ensures.reads in
    let top = rw c.in-Ok-Some.field-0-is at c.in-Ok-Some.ensures.words in
    let sum = rw (c.shift_left.ensures, c.BITS.ensures, c.widen.ensures) at c.plus-full.ensures in
    record {
      some = rw sum (omega (arith, grows));
      below = λ small. rw sum room.0;
      untouched = λ already. absurd (not_far g.State.Natural.number _ _ c.args.bits already (c.loop-bulk.invariant.untouched already).0 none);
      moved = moves_more g.Word.Natural.number g.Backend.Holds g.Backend.ReadWords w (g.State.Natural.number c.args.head) n (g.State.Natural.number c.plus-full.result) c.args.bulk.now c.loop-bulk.bulk c.read.new.self word c.loop-bulk.invariant.moved reads top sum;
    }

pub returns-clause-moves : goal.returns-clause-moves
returns-clause-moves g c =
    let full = large_of_shr _ _ (λ e. false≢true (c.loop-bulk-test.ensures.1 (c.shift_right.ensures ∙ e))) in
    (c.loop-bulk.invariant.moved, full)

pub returns-in-Ok-None-clause-untouched : goal.returns-in-Ok-None-clause-untouched
returns-in-Ok-None-clause-untouched g c = λ already.
    absurd (not_far g.State.Natural.number _ _ c.args.bits already (c.loop-bulk.invariant.untouched already).0 (sym c.shift_right.ensures ∙ c.loop-bulk-test.ensures.0 refl))

pub returns-in-Err-clause-untouched : goal.returns-in-Err-clause-untouched
returns-in-Err-clause-untouched g c = λ already.
    absurd (not_far g.State.Natural.number _ _ c.args.bits already (c.loop-bulk.invariant.untouched already).0 (sym c.shift_right.ensures ∙ c.loop-bulk-test.ensures.0 refl))
