use Rattle.std.proofs.Common.{arith, refl, ◌∙◌, sym}
use Rattle.constriction_base.proofs.Heads.{large_of_shr, small_of_shr}
use Rattle.constriction_queue.proofs.Owed.{held_one_more}
use Rattle.constriction_queue.proofs.Parts.{long_run, not_over, top_is, shifted_run, held_run, lower_fits, range_fits, over_fits, first_fits}
use Rattle.constriction_queue.proofs.step.grow.Goals as goal

pub returns-then-not-is_nothing-clause-wide : goal.returns-then-not-is_nothing-clause-wide
returns-then-not-is_nothing-clause-wide g c =
    let is = rw (c.BITS.ensures, c.BITS-2.ensures) at c.shift_right.ensures in
    large_of_shr _ _ (λ e. let no = c.if-not-is_nothing.ensures.1 (is ∙ e) in cc)

pub shift_left-lower-requires-clause-fits : goal.shift_left-lower-requires-clause-fits
shift_left-lower-requires-clause-fits g c =
    rw (c.low_bits.ensures, c.BITS.ensures, c.BITS-2.ensures, c.BITS-3.ensures) (lower_fits _ _ _ (omega arith))

pub shift_left-range-requires-clause-fits : goal.shift_left-range-requires-clause-fits
shift_left-range-requires-clause-fits g c =
    let is = rw (c.BITS.ensures, c.BITS-2.ensures) at c.shift_right.ensures in
    let short = small_of_shr _ _ (sym is ∙ c.if-not-is_nothing.ensures.0 refl) in
    let fits = range_fits g.Word.Natural.BITS g.State.Natural.BITS _ (omega arith) (omega (arith, g.met.Word.Natural.bits_law)) short in
    rw c.BITS-4.ensures (omega arith)

pub returns-in-Inverted-clause-fit : goal.returns-in-Inverted-clause-fit
returns-in-Inverted-clause-fit g c =
    let is = rw (c.BITS.ensures, c.BITS-2.ensures) at c.shift_right.ensures in
    let short = small_of_shr _ _ (sym is ∙ c.if-not-is_nothing.ensures.0 refl) in
    let lower = rw (c.low_bits.ensures, c.BITS.ensures, c.BITS-2.ensures, c.BITS-3.ensures) at c.shift_left-lower.ensures in
    let range = rw c.BITS-4.ensures at c.shift_left-range.ensures in
    let fit = rw c.in-Inverted.is at c.requires.fit in
    let place = rw c.in-Inverted.is at c.requires.place in
    let fits = range_fits g.Word.Natural.BITS g.State.Natural.BITS _ (omega arith) (omega (arith, g.met.Word.Natural.bits_law)) short in
    rw c.nonzero_count.ensures (
      over_fits _ _ _ _ _ _ (omega arith) (g.met.State.Natural.number_law _) short fit.0 lower range,
      fit.1,
      rw range fits,
      omega arith,
    )

pub returns-in-Inverted-clause-run : goal.returns-in-Inverted-clause-run
returns-in-Inverted-clause-run g c words =
    let is = rw (c.BITS.ensures, c.BITS-2.ensures) at c.shift_right.ensures in
    let short = small_of_shr _ _ (sym is ∙ c.if-not-is_nothing.ensures.0 refl) in
    let lower = rw (c.low_bits.ensures, c.BITS.ensures, c.BITS-2.ensures, c.BITS-3.ensures) at c.shift_left-lower.ensures in
    let range = rw c.BITS-4.ensures at c.shift_left-range.ensures in
    let fit = rw c.in-Inverted.is at c.requires.fit in
    rw (c.in-Inverted.is, c.nonzero_count.ensures, c.get.ensures.value)
    (held_run _ _ _ _ _ _ _ _ words (omega arith) (g.met.State.Natural.number_law _) short fit.0 (omega arith) lower range)

pub returns-then-reaches_over-clause-fit : goal.returns-then-reaches_over-clause-fit
returns-then-reaches_over-clause-fit g c =
    let is = rw (c.BITS.ensures, c.BITS-2.ensures) at c.shift_right.ensures in
    let short = small_of_shr _ _ (sym is ∙ c.if-not-is_nothing.ensures.0 refl) in
    let lower = rw (c.low_bits.ensures, c.BITS.ensures, c.BITS-2.ensures, c.BITS-3.ensures) at c.shift_left-lower.ensures in
    let range = rw c.BITS-4.ensures at c.shift_left-range.ensures in
    let fit = rw c.in-Normal.is at c.requires.fit in
    let fits = range_fits g.Word.Natural.BITS g.State.Natural.BITS _ (omega arith) (omega (arith, g.met.Word.Natural.bits_law)) short in
    let top = rw (c.shift_right-2.ensures, c.BITS.ensures, c.BITS-2.ensures) at c.narrow-top.ensures in
    let top_same = top ∙ top_is _ _ _ (omega arith) (g.met.State.Natural.number_law _) in
    let over = c.if-reaches_over.ensures.0 refl in
    rw c.nonzero_count-then-reaches_over.ensures (
      over,
      rw top_same (first_fits _ _ _ _ _ _ (omega arith) fit lower range over),
      rw range fits,
      omega arith,
    )

pub returns-then-reaches_over-clause-run : goal.returns-then-reaches_over-clause-run
returns-then-reaches_over-clause-run g c words =
    let is = rw (c.BITS.ensures, c.BITS-2.ensures) at c.shift_right.ensures in
    let short = small_of_shr _ _ (sym is ∙ c.if-not-is_nothing.ensures.0 refl) in
    let lower = rw (c.low_bits.ensures, c.BITS.ensures, c.BITS-2.ensures, c.BITS-3.ensures) at c.shift_left-lower.ensures in
    let range = rw c.BITS-4.ensures at c.shift_left-range.ensures in
    let top = rw (c.shift_right-2.ensures, c.BITS.ensures, c.BITS-2.ensures) at c.narrow-top.ensures in
    let top_same = top ∙ top_is _ _ _ (omega arith) (g.met.State.Natural.number_law _) in
    rw (c.in-Normal.is, c.nonzero_count-then-reaches_over.ensures)
    (shifted_run _ _ _ _ _ _ _ words (omega arith) (g.met.State.Natural.number_law _) short top_same lower range)

pub returns-else-reaches_over-clause-run : goal.returns-else-reaches_over-clause-run
returns-else-reaches_over-clause-run g c words =
    let is = rw (c.BITS.ensures, c.BITS-2.ensures) at c.shift_right.ensures in
    let short = small_of_shr _ _ (sym is ∙ c.if-not-is_nothing.ensures.0 refl) in
    let lower = rw (c.low_bits.ensures, c.BITS.ensures, c.BITS-2.ensures, c.BITS-3.ensures) at c.shift_left-lower.ensures in
    let range = rw c.BITS-4.ensures at c.shift_left-range.ensures in
    let top = rw (c.shift_right-2.ensures, c.BITS.ensures, c.BITS-2.ensures) at c.narrow-top.ensures in
    let top_same = top ∙ top_is _ _ _ (omega arith) (g.met.State.Natural.number_law _) in
    rw c.in-Normal.is
    (shifted_run _ _ _ _ _ _ _ words (omega arith) (g.met.State.Natural.number_law _) short top_same lower range)

pub returns-then-not-is_nothing-clause-fit : goal.returns-then-not-is_nothing-clause-fit
returns-then-not-is_nothing-clause-fit g c = c.requires.fit

pub returns-then-not-is_nothing-clause-held : goal.returns-then-not-is_nothing-clause-held
returns-then-not-is_nothing-clause-held g c = omega arith

pub returns-then-not-is_nothing-clause-run : goal.returns-then-not-is_nothing-clause-run
returns-then-not-is_nothing-clause-run g c words = long_run _ _ _ (returns-then-not-is_nothing-clause-wide g c)

pub returns-in-Inverted-clause-wide : goal.returns-in-Inverted-clause-wide
returns-in-Inverted-clause-wide g c =
    let range = rw c.BITS-4.ensures at c.shift_left-range.ensures in
    rw range c.requires.wide

pub returns-in-Inverted-clause-held : goal.returns-in-Inverted-clause-held
returns-in-Inverted-clause-held g c =
    rw (c.in-Inverted.is, c.nonzero_count.ensures, c.get.ensures.value) (held_one_more _ _ _ (omega arith))

pub returns-then-reaches_over-clause-wide : goal.returns-then-reaches_over-clause-wide
returns-then-reaches_over-clause-wide g c =
    let range = rw c.BITS-4.ensures at c.shift_left-range.ensures in
    rw range c.requires.wide

pub returns-then-reaches_over-clause-held : goal.returns-then-reaches_over-clause-held
returns-then-reaches_over-clause-held g c = rw (c.in-Normal.is, c.nonzero_count-then-reaches_over.ensures) (omega arith)

pub returns-else-reaches_over-clause-wide : goal.returns-else-reaches_over-clause-wide
returns-else-reaches_over-clause-wide g c =
    let range = rw c.BITS-4.ensures at c.shift_left-range.ensures in
    rw range c.requires.wide

pub returns-else-reaches_over-clause-fit : goal.returns-else-reaches_over-clause-fit
returns-else-reaches_over-clause-fit g c = not_over _ _ _ _ refl c.if-reaches_over.ensures

pub returns-else-reaches_over-clause-held : goal.returns-else-reaches_over-clause-held
returns-else-reaches_over-clause-held g c = omega arith
