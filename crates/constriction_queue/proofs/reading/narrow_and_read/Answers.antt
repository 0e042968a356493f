use Rattle.std.proofs.Common.{◌≡◌, ◌+◌, ◌%◌, ◌^◌, arith, inl, inr, pow_pos}
use Rattle.constriction_queue.specs.Range.{cut}
use Rattle.constriction_queue.proofs.Fits.{cut_wide}
use Rattle.constriction_queue.proofs.Parts.{before_fits}
use Rattle.constriction_queue.proofs.Pointing.{at_cut, part_fits, scale_some}
use Rattle.constriction_queue.proofs.Distances.{part_below, part_from, point_stays}
use Rattle.constriction_queue.proofs.reading.narrow_and_read.Goals as goal

pub grow_and_read-requires-clause-wide : goal.grow_and_read-requires-clause-wide
grow_and_read-requires-clause-wide g c =
    rw (c.times-part.ensures, c.shift_right-scale.ensures)
    (cut_wide _ _ _ _ _ c.requires.step.within_word c.requires.sizes.two_words c.requires.step.not_empty c.requires.wide)

pub returns-in-Ok : goal.returns-in-Ok
returns-in-Ok g c =
    let scale = c.shift_right-scale.ensures in
    let lower = rw c.times-before.ensures at c.wrapping_plus-start.ensures in
    let some = scale_some g.Word.Natural.BITS g.State.Natural.BITS c.args.precision _ c.requires.step.within_word c.requires.sizes.two_words c.requires.wide in
    let before = part_from (g.State.Natural.number c.args.distance) _ (g.State.Natural.number c.args.left) some c.requires.above in
    let stays : (g.State.Natural.number c.minus.result + g.State.Natural.number c.wrapping_plus-start.result) % 2 ^ g.State.Natural.BITS ≡ (g.State.Natural.number c.args.distance + g.State.Natural.number c.args.lower) % 2 ^ g.State.Natural.BITS =
    rw (c.minus.ensures, lower, c.times-before.ensures, scale) (point_stays (g.State.Natural.number c.args.distance) (g.State.Natural.number c.args.lower) _ (2 ^ g.State.Natural.BITS) (pow_pos g.State.Natural.BITS) before) in
    let range = rw scale at c.times-part.ensures in
    let reads = rw stays at c.in-Ok.ensures.reads in
    record {
      wide = c.in-Ok.ensures.wide;
      list = λ list ws r h. (rw stays at c.in-Ok.ensures.list) list ws (cut _ r) (at_cut _ _ _ _ _ ws r _ _ _ _ _ _ _ scale lower c.times-part.ensures h);
      kept = λ _. tt;
      reads = elim reads [
        | inl read ↦ inl (
          rw range at read.0,
          (read.1.0, read.1.1, λ ws r rest h. read.1.2 ws (cut _ r) rest (at_cut _ _ _ _ _ ws r _ _ _ _ _ _ _ scale lower c.times-part.ensures h)),
        )
        | inr none ↦ inr (
          λ owes. none.0 (rw (← range) at owes),
          none.1,
          λ ws r rest h. none.2 ws (cut _ r) rest (at_cut _ _ _ _ _ ws r _ _ _ _ _ _ _ scale lower c.times-part.ensures h),
        )
      ];
      err = tt;
    }

pub shift_right-scale-requires : goal.shift_right-scale-requires
shift_right-scale-requires g c = omega (arith, c.requires.step.within_word, c.requires.sizes.two_words, c.requires.sizes.some_bits)

pub times-part-requires : goal.times-part-requires
times-part-requires g c = part_fits _ _ _ _ _ _ c.shift_right-scale.ensures c.requires.step.inside (g.met.State.Natural.number_law _)

pub times-before-requires : goal.times-before-requires
times-before-requires g c = before_fits _ _ _ _ _ _ c.shift_right-scale.ensures c.requires.step.inside (g.met.State.Natural.number_law _)

pub grow_and_read-requires-clause-sized : goal.grow_and_read-requires-clause-sized
grow_and_read-requires-clause-sized g c = c.requires.sizes.two_words

pub returns-in-Err : goal.returns-in-Err
returns-in-Err g c = record {
  wide = tt;
  list = λ _. tt;
  kept = λ list. c.in-Err.ensures.kept list;
  reads = tt;
  err = (rw (c.times-part.ensures, c.shift_right-scale.ensures) at c.in-Err.ensures.err.0, c.in-Err.ensures.err.1);
}

pub minus-requires : goal.minus-requires
minus-requires g c =
    let some = scale_some g.Word.Natural.BITS g.State.Natural.BITS c.args.precision _ c.requires.step.within_word c.requires.sizes.two_words c.requires.wide in
    rw (c.times-before.ensures, c.shift_right-scale.ensures) (part_from (g.State.Natural.number c.args.distance) _ (g.State.Natural.number c.args.left) some c.requires.above)

pub grow_and_read-requires-clause-below : goal.grow_and_read-requires-clause-below
grow_and_read-requires-clause-below g c =
    let some = scale_some g.Word.Natural.BITS g.State.Natural.BITS c.args.precision _ c.requires.step.within_word c.requires.sizes.two_words c.requires.wide in
    rw (c.minus.ensures, c.times-before.ensures, c.times-part.ensures, c.shift_right-scale.ensures) (part_below (g.State.Natural.number c.args.distance) _ (g.State.Natural.number c.args.left) (g.State.Natural.number c.args.p) some c.requires.above c.requires.below)
