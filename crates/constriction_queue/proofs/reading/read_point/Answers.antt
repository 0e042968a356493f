use Rattle.std.specs.Prelude.{◌≡◌, ◌^◌, List, ℕ, map, drop}
use Rattle.std.proofs.Common.{refl, arith, ap, ◌∙◌, add-one, get_or, pow_pos}
use Rattle.constriction_queue.proofs.Beginning.{next_below, asked_next, next_fits}
use Rattle.constriction_queue.proofs.Pointing.{drop_one, first_of}
use Rattle.constriction_queue.proofs.reading.read_point.Goals as goal

pub shift_left-requires-clause-fits : goal.shift_left-requires-clause-fits
shift_left-requires-clause-fits g c =
    let fits = next_fits g.Word.Natural.BITS g.State.Natural.BITS c.loop-i.i (g.State.Natural.number c.loop-i.point) 0 c.loop-i.invariant.fits (pow_pos g.Word.Natural.BITS) (omega arith) in
    rw c.BITS.ensures (omega (arith, fits))

pub plus-point-requires : goal.plus-point-requires
plus-point-requires g c =
    rw (c.shift_left.ensures, c.BITS.ensures, c.widen.ensures)
    (next_fits g.Word.Natural.BITS g.State.Natural.BITS c.loop-i.i (g.State.Natural.number c.loop-i.point) _ c.loop-i.invariant.fits (g.met.Word.Natural.number_law _) (omega arith))

pub loop-i-preserved : goal.loop-i-preserved
loop-i-preserved g c =
    let number = g.Word.Natural.number in
    let is = rw (c.shift_left.ensures, c.BITS.ensures, c.widen.ensures) at c.plus-point.ensures in
    let before : List ℕ = map number (g.Backend.Holds.words c.args.bulk.now) in
    record {
      fits = rw is (next_below g.Word.Natural.BITS c.loop-i.i (g.State.Natural.number c.loop-i.point) _ c.loop-i.invariant.fits (g.met.Word.Natural.number_law _));
      point = λ list.
          let point : number c.in_ok-next.next.0 ≡ get_or before c.loop-i.i 0 =
          c.in_ok-next.ensures.word list ∙ ap (λ (ws : List ℕ). get_or ws 0 0) (c.loop-i.invariant.rest list) ∙ first_of c.loop-i.i before in
          rw (add-one, is, point, c.loop-i.invariant.point list) refl;
      taken = rw add-one (asked_next number g.Backend.ReadWords (2 ^ g.Word.Natural.BITS) c.loop-i.i (g.State.Natural.number c.loop-i.point) (number c.in_ok-next.next.0) _ c.loop-i.ended c.in_ok-next.next.1 _ _ _ c.loop-i.invariant.taken c.in_ok-next.ensures.reads is);
      rest = λ list. rw add-one (c.in_ok-next.ensures.rest list ∙ ap (λ (ws : List ℕ). drop 1 ws) (c.loop-i.invariant.rest list) ∙ drop_one c.loop-i.i before);
      end = c.in_ok-next.ensures.end;
    }
