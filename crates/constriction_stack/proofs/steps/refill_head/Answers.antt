use Rattle.std.specs.Prelude.{map}
use Rattle.std.proofs.Common.{arith, ◌∙◌, ◌^◌, refl, sym, inl, inr}
use Rattle.std.proofs.lemmas.Nat.{mod-mul-add}
use Rattle.std.proofs.lemmas.Bool.{false≢true}
use Rattle.constriction_base.proofs.Heads.{room_for_word, large_of_shr, small_of_shr}
use Rattle.constriction_stack.proofs.Pushing.{refilled_full, refilled_low}
use Rattle.constriction_stack.proofs.steps.refill_head.Goals as goal

pub shift_left-requires-clause-fits : goal.shift_left-requires-clause-fits
shift_left-requires-clause-fits g c =
    let is = rw (c.BITS.ensures, c.BITS-2.ensures) at c.shift_right.ensures in
    let none = c.if-not-is_nothing.ensures.0 refl in
    let room = room_for_word g.State.Natural.BITS g.Word.Natural.BITS (g.State.Natural.number c.args.head) (g.Word.Natural.number c.in-Ok-Some.word) (omega (arith, c.requires.two_words)) (omega arith) (g.met.Word.Natural.number_law _) in
    rw c.BITS-3.ensures (omega arith)

pub plus-requires : goal.plus-requires
plus-requires g c =
    let is = rw (c.BITS.ensures, c.BITS-2.ensures) at c.shift_right.ensures in
    let none = c.if-not-is_nothing.ensures.0 refl in
    let room = room_for_word g.State.Natural.BITS g.Word.Natural.BITS (g.State.Natural.number c.args.head) (g.Word.Natural.number c.in-Ok-Some.word) (omega (arith, c.requires.two_words)) (omega arith) (g.met.Word.Natural.number_law _) in
    rw (c.shift_left.ensures, c.BITS-3.ensures, c.widen.ensures) room

pub returns-then-not-is_nothing-clause-list : goal.returns-then-not-is_nothing-clause-list
returns-then-not-is_nothing-clause-list g c =
    let is = rw (c.BITS.ensures, c.BITS-2.ensures) at c.shift_right.ensures in
    let full = large_of_shr _ _ (λ e. false≢true (c.if-not-is_nothing.ensures.1 (is ∙ e))) in
    λ list. refilled_full _ _ _ _ (inl full)

pub returns-then-not-is_nothing-clause-reads : goal.returns-then-not-is_nothing-clause-reads
returns-then-not-is_nothing-clause-reads g c =
    let is = rw (c.BITS.ensures, c.BITS-2.ensures) at c.shift_right.ensures in
    let full = large_of_shr _ _ (λ e. false≢true (c.if-not-is_nothing.ensures.1 (is ∙ e))) in
    inl (full, refl, refl)

pub returns-in-Err-clause-reads : goal.returns-in-Err-clause-reads
returns-in-Err-clause-reads g c =
    let is = rw (c.BITS.ensures, c.BITS-2.ensures) at c.shift_right.ensures in
    (small_of_shr _ _ (sym is ∙ c.if-not-is_nothing.ensures.0 refl), c.in-Err.ensures.reads)

pub returns-in-Ok-None-clause-list : goal.returns-in-Ok-None-clause-list
returns-in-Ok-None-clause-list g c = λ list.
    let read = rw c.in-Ok-None.field-0-is at c.in-Ok-None.ensures.words in
    let none = read list in
    rw (none.0, none.1) refl

pub returns-in-Ok-None-clause-reads : goal.returns-in-Ok-None-clause-reads
returns-in-Ok-None-clause-reads g c =
    let is = rw (c.BITS.ensures, c.BITS-2.ensures) at c.shift_right.ensures in
    let read = rw c.in-Ok-None.field-0-is at c.in-Ok-None.ensures.reads in
    inr (inl (small_of_shr _ _ (sym is ∙ c.if-not-is_nothing.ensures.0 refl), refl, read))

pub returns-clause-list : goal.returns-clause-list
returns-clause-list g c = λ list.
    let is = rw (c.BITS.ensures, c.BITS-2.ensures) at c.shift_right.ensures in
    let low = small_of_shr _ _ (sym is ∙ c.if-not-is_nothing.ensures.0 refl) in
    let read = rw c.in-Ok-Some.field-0-is at c.in-Ok-Some.ensures.words in
    let new = rw (c.shift_left.ensures, c.BITS-3.ensures, c.widen.ensures) at c.plus.ensures in
    rw (read list, new) (refilled_low g.Word.Natural.BITS g.State.Natural.BITS (g.State.Natural.number c.args.head) (g.Word.Natural.number c.in-Ok-Some.word) (map g.Word.Natural.number (g.Backend.Holds.words c.read.new.self)) low)

pub returns-clause-reads : goal.returns-clause-reads
returns-clause-reads g c =
    let is = rw (c.BITS.ensures, c.BITS-2.ensures) at c.shift_right.ensures in
    let low = small_of_shr _ _ (sym is ∙ c.if-not-is_nothing.ensures.0 refl) in
    let read = rw c.in-Ok-Some.field-0-is at c.in-Ok-Some.ensures.reads in
    let new = rw (c.shift_left.ensures, c.BITS-3.ensures, c.widen.ensures) at c.plus.ensures in
    inr (inr (low, (c.in-Ok-Some.word, new, read)))

pub returns-clause-low : goal.returns-clause-low
returns-clause-low g c =
    let new = rw (c.shift_left.ensures, c.BITS-3.ensures, c.widen.ensures) at c.plus.ensures in
    rw new (sym (mod-mul-add (g.State.Natural.number c.args.head) (2 ^ g.Word.Natural.BITS) (g.Word.Natural.number c.in-Ok-Some.word) (g.met.Word.Natural.number_law _)))
