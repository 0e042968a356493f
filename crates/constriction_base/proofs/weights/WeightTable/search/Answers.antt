use Rattle.std.proofs.Common.{◌≡◌, ℕ, List, ◌+◌, ◌-◌, ◌^◌, ◌<◌, ◌≤◌, map, length, arith}
use Rattle.std.specs.Prelude.{slice_index, slice_index_or}
use Rattle.std.proofs.Common.{◌/◌, lit<}
use Rattle.std.proofs.lemmas.List.{length-map, get_or_default}
use Rattle.constriction_base.proofs.Results.{not_below}
use Rattle.constriction_base.proofs.weights.WeightTable.search.Goals as goal

pub loop-high-init : goal.loop-high-init
loop-high-init g c = record {
  order = c.requires.order;
  within = omega (arith, c.requires.within, length-map c.args.self.now.starts.items g.Probability.Natural.number);
  above = c.requires.above;
  below = c.requires.below;
}

pub overflow_sub-high : goal.overflow_sub-high
overflow_sub-high g c = omega (arith, c.loop-high.invariant.order)

pub overflow_sub-middle : goal.overflow_sub-middle
overflow_sub-middle g c = omega (arith, c.loop-high.invariant.order)

pub overflow_add-middle : goal.overflow_add-middle
overflow_add-middle g c = omega (arith, c.loop-high.invariant.order, c.loop-high.auto.high-fits)

pub start-requires : goal.start-requires
start-requires g c =
    let i = c.loop-high.invariant in
    (lit< tt, omega (arith, i.order, i.within, c.loop-high-test.true, length-map c.args.self.now.starts.items g.Probability.Natural.number))

pub loop-high-smaller-then-is_below : goal.loop-high-smaller-then-is_below
loop-high-smaller-then-is_below g c = omega (arith, c.loop-high.invariant.order, c.loop-high-test.true)

pub loop-high-smaller : goal.loop-high-smaller
loop-high-smaller g c = omega (arith, c.loop-high.invariant.order, c.loop-high-test.true)

-- the quantile lies below the middle
before_middle : (starts : List ℕ) (high q middle start : ℕ) → middle < length starts → start ≡ slice_index starts middle → q < start → q < slice_index_or starts middle high
before_middle starts high q middle start inside is less = omega (arith, is, less, get_or_default starts middle high 0 inside)

pub loop-high-preserved-then-is_below : goal.loop-high-preserved-then-is_below
loop-high-preserved-then-is_below g c =
    let i = c.loop-high.invariant in
    let starts = map g.Probability.Natural.number c.args.self.now.starts.items in
    let middle : ℕ = c.loop-high.low + (c.loop-high.high - c.loop-high.low) / 2 in
    record {
      order = omega (arith, i.order, c.loop-high-test.true);
      within = omega (arith, i.order, i.within);
      above = i.above;
      below = before_middle starts (2 ^ g.row.PRECISION) (g.Probability.Natural.number c.args.quantile) middle _ (omega (arith, i.order, i.within, c.loop-high-test.true)) c.start.ensures (c.is_below.ensures.0 c.if-is_below.true);
    }

pub loop-high-preserved : goal.loop-high-preserved
loop-high-preserved g c =
    let i = c.loop-high.invariant in
    record {
      order = omega (arith, i.order, c.loop-high-test.true);
      within = i.within;
      above = omega (arith, c.start.ensures, not_below _ _ _ c.is_below.ensures c.if-is_below.false);
      below = i.below;
    }

pub returns-clause-within : goal.returns-clause-within
returns-clause-within g c =
    let i = c.loop-high.invariant in
    omega (arith, i.order, i.within, length-map c.args.self.now.starts.items g.Probability.Natural.number)

pub returns-clause-above : goal.returns-clause-above
returns-clause-above g c = c.loop-high.invariant.above

-- the search stops one below the end
at_end : (starts : List ℕ) (high low top q : ℕ) → low < top → top - low ≤ 1 → q < slice_index_or starts top high → q < slice_index_or starts (low + 1) high
at_end starts high low top q order done below =
    let next : top ≡ low + 1 = omega (arith, order, done) in
    rw next at below

pub returns-clause-below : goal.returns-clause-below
returns-clause-below g c =
    let i = c.loop-high.invariant in
    at_end (map g.Probability.Natural.number c.args.self.now.starts.items) (2 ^ g.row.PRECISION) c.loop-high.low c.loop-high.high (g.Probability.Natural.number c.args.quantile) i.order c.loop-high-test.false i.below
