use Rattle.std.proofs.Common.{◌*◌, ap, arith, refl, ◌∙◌}
use Rattle.constriction_queue.proofs.Begun.{held_few}
use Rattle.constriction_queue.proofs.Owed.{held_never}
use Rattle.constriction_queue.proofs.Parts.{before_fits, normal_part, not_over, over_part, part_run, part_within, released_run}
use Rattle.constriction_queue.proofs.Pointing.{part_fits}
use Rattle.constriction_queue.proofs.step.narrow_interval.Goals as goal

pub returns-in-Normal-clause-fit : goal.returns-in-Normal-clause-fit
returns-in-Normal-clause-fit g c =
    let scale = c.shift_right-scale.ensures in
    let lower = rw c.times.ensures at c.wrapping_plus-start.ensures in
    (normal_part _ _ _ _ _ _ _ _ _ scale lower c.times-part.ensures c.requires.total (rw c.in-Normal.is at c.requires.fit)).1

pub returns-in-Normal-clause-run : goal.returns-in-Normal-clause-run
returns-in-Normal-clause-run g c words =
    let scale = c.shift_right-scale.ensures in
    let lower = rw c.times.ensures at c.wrapping_plus-start.ensures in
    let same = (normal_part _ _ _ _ _ _ _ _ _ scale lower c.times-part.ensures c.requires.total (rw c.in-Normal.is at c.requires.fit)).0 in
    rw c.in-Normal.is (part_run _ _ _ _ _ _ _ _ _ _ words scale c.times-part.ensures same)

pub returns-then-reaches_over-clause-run : goal.returns-then-reaches_over-clause-run
returns-then-reaches_over-clause-run g c words =
    let scale = c.shift_right-scale.ensures in
    let lower = rw c.times.ensures at c.wrapping_plus-start.ensures in
    let fit = rw c.in-Inverted.is at c.requires.fit in
    let same = over_part _ _ _ _ _ _ _ _ _ scale lower c.times-part.ensures c.requires.total (g.met.State.Natural.number_law _) (g.met.State.Natural.number_law _) (c.if-reaches_over.ensures.0 refl) in
    rw c.in-Inverted.is (part_run _ _ _ _ _ _ _ _ _ _ _ scale c.times-part.ensures same)

pub returns-else-reaches_over-clause-run : goal.returns-else-reaches_over-clause-run
returns-else-reaches_over-clause-run g c words =
    let scale = c.shift_right-scale.ensures in
    let lower = rw c.times.ensures at c.wrapping_plus-start.ensures in
    rw c.in-Inverted.is
    (released_run _ _ _ _ _ _ _ _ _ _ _ _ _ _ words scale lower c.times-part.ensures c.requires.total (g.met.State.Natural.number_law _) (g.met.State.Natural.number_law _) c.add_carry.ensures c.is_below.ensures)

pub returns-else-reaches_over-clause-few : goal.returns-else-reaches_over-clause-few
returns-else-reaches_over-clause-few g c =
    let fit = rw c.in-Inverted.is at c.requires.fit in
    rw c.add_carry.ensures (held_few _ _ _ fit.3)

pub times-part-requires : goal.times-part-requires
times-part-requires g c = part_fits _ _ _ _ _ _ c.shift_right-scale.ensures c.requires.total (g.met.State.Natural.number_law _)

pub times-requires : goal.times-requires
times-requires g c = before_fits _ _ _ _ _ _ c.shift_right-scale.ensures c.requires.total (g.met.State.Natural.number_law _)

pub add_carry-requires : goal.add_carry-requires
add_carry-requires g c = (rw c.in-Inverted.is at c.requires.fit).1

pub returns-in-Normal-clause-place : goal.returns-in-Normal-clause-place
returns-in-Normal-clause-place g c = λ place. tt

pub returns-in-Normal-clause-few : goal.returns-in-Normal-clause-few
returns-in-Normal-clause-few g c = omega arith

pub returns-in-Normal-clause-held : goal.returns-in-Normal-clause-held
returns-in-Normal-clause-held g c = omega arith

pub returns-in-Normal-clause-none : goal.returns-in-Normal-clause-none
returns-in-Normal-clause-none g c = λ none. refl

pub returns-in-Normal-clause-range : goal.returns-in-Normal-clause-range
returns-in-Normal-clause-range g c = c.times-part.ensures ∙ ap (λ z. z * g.State.Natural.number c.args.p) c.shift_right-scale.ensures

pub returns-then-reaches_over-clause-fit : goal.returns-then-reaches_over-clause-fit
returns-then-reaches_over-clause-fit g c =
    let fit = rw c.in-Inverted.is at c.requires.fit in
    let within = part_within _ _ _ _ _ _ c.shift_right-scale.ensures c.times-part.ensures c.requires.total in
    (c.if-reaches_over.ensures.0 refl, fit.1, omega (arith, fit.2, within), fit.3)

pub returns-then-reaches_over-clause-place : goal.returns-then-reaches_over-clause-place
returns-then-reaches_over-clause-place g c = λ place. rw c.in-Inverted.is at place

pub returns-then-reaches_over-clause-few : goal.returns-then-reaches_over-clause-few
returns-then-reaches_over-clause-few g c = omega arith

pub returns-then-reaches_over-clause-held : goal.returns-then-reaches_over-clause-held
returns-then-reaches_over-clause-held g c = rw c.in-Inverted.is (omega arith)

pub returns-then-reaches_over-clause-none : goal.returns-then-reaches_over-clause-none
returns-then-reaches_over-clause-none g c = λ none. refl

pub returns-then-reaches_over-clause-range : goal.returns-then-reaches_over-clause-range
returns-then-reaches_over-clause-range g c = c.times-part.ensures ∙ ap (λ z. z * g.State.Natural.number c.args.p) c.shift_right-scale.ensures

pub returns-else-reaches_over-clause-fit : goal.returns-else-reaches_over-clause-fit
returns-else-reaches_over-clause-fit g c = not_over _ _ _ _ refl c.if-reaches_over.ensures

pub returns-else-reaches_over-clause-place : goal.returns-else-reaches_over-clause-place
returns-else-reaches_over-clause-place g c = λ place. tt

pub returns-else-reaches_over-clause-held : goal.returns-else-reaches_over-clause-held
returns-else-reaches_over-clause-held g c = omega arith

pub returns-else-reaches_over-clause-none : goal.returns-else-reaches_over-clause-none
returns-else-reaches_over-clause-none g c = λ none.
    let held = rw c.in-Inverted.is at none in
    absurd (held_never _ _ _ held)

pub returns-else-reaches_over-clause-range : goal.returns-else-reaches_over-clause-range
returns-else-reaches_over-clause-range g c = c.times-part.ensures ∙ ap (λ z. z * g.State.Natural.number c.args.p) c.shift_right-scale.ensures
