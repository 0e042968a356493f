use Rattle.std.proofs.Common.{arith, rules}
use Rattle.constriction_inputs.proofs.Guiding.{guesses_push, no_guesses, one_below}
use Rattle.constriction_inputs.proofs.models.guided.guesses_of.Goals as goal

pub shift_left-width-requires-clause-fits : goal.shift_left-width-requires-clause-fits
shift_left-width-requires-clause-fits g c = one_below _ _ _ c.unit.ensures (omega (arith, c.requires.sizes.1, c.requires.within.0))

pub shift_left-middle-requires-clause-fits : goal.shift_left-middle-requires-clause-fits
shift_left-middle-requires-clause-fits g c = one_below _ _ _ c.unit-2.ensures (omega (arith, c.requires.sizes.1, c.requires.within.0, c.saturating_sub.ensures))

pub loop-bucket-init : goal.loop-bucket-init
loop-bucket-init g c =
    let intervals = c.in_ok-intervals.intervals.items in
    let symbols = c.in_ok-symbols.symbols.items in
    record {
      room = search rules;
      counted = omega (arith, c.in_ok-intervals.ensures.len);
      capacity = search rules;
      as_many = omega (arith, c.in_ok-symbols.ensures.len);
      within = omega arith;
      left = c.nothing-start.ensures;
      are = no_guesses g.P.Natural.number c.args.weights.now intervals symbols c.in_ok-intervals.ensures.items c.in_ok-symbols.ensures.items;
    }

pub loop-bucket-preserved : goal.loop-bucket-preserved
loop-bucket-preserved g c =
    let l = c.loop-bucket in
    let i = l.invariant in
    let is = c.find_from-found.ensures in
    record {
      room = omega (arith, c.push_reserved.ensures.capacity, i.room);
      counted = omega (arith, c.push_reserved.ensures.len, i.counted);
      capacity = omega (arith, c.push_reserved-in-loop-bucket.ensures.capacity, i.capacity);
      as_many = omega (arith, c.push_reserved-in-loop-bucket.ensures.len, i.as_many);
      within = omega (arith, is.within);
      left = is.left;
      are = rw (c.push_reserved.ensures.items, c.push_reserved-in-loop-bucket.ensures.items) (guesses_push g.P.Natural.number c.args.weights.now l.intervals.items l.symbols.items _ _ i.are (record { within = is.within; left = is.left; weight = is.value }));
    }
