use Rattle.std.proofs.Common.{arith, ◌≡◌, ◌<◌}
use Rattle.constriction_symbol.proofs.WordLemmas.{down_room, down_step}
use Rattle.constriction_symbol.proofs.numbers.same_down_to.Goals as goal

pub doubled-same-requires : goal.doubled-same-requires
doubled-same-requires g c =
    let some : 0 < c.loop-left.left = omega (arith, c.loop-left-test.true) in
    down_room g.To.Natural.BITS c.loop-left.left (g.From.Natural.number c.args.number) _ (omega (arith, g.met.To.Natural.bits_law.0)) some c.requires.fits c.loop-left.invariant.done

pub loop-left-preserved : goal.loop-left-preserved
loop-left-preserved g c =
    let some : 0 < c.loop-left.left = omega (arith, c.loop-left-test.true) in
    record {
      above = omega (arith, c.loop-left-test.true);
      within = omega (arith, c.loop-left.invariant.within);
      done = down_step c.loop-left.left (g.From.Natural.number c.args.number) _ _ _ _ _ some c.loop-left.invariant.done c.shift_right.ensures c.low_bits.ensures c.is_nothing.ensures c.doubled-same.ensures;
    }

pub returns : goal.returns
returns g c =
    let all : c.loop-left.left ≡ c.args.to = omega (arith, c.loop-left.invariant.above, c.loop-left-test.false) in
    rw all at c.loop-left.invariant.done
