use Rattle.std.proofs.Common.{◌≤◌, ◌<◌, ◌∙◌, arith, length, refl, sym}
use Rattle.std.proofs.lemmas.List.{length-set, take_all}
use Rattle.constriction_store.specs.Stores.{Entry, entry_at}
use Rattle.constriction_calls.proofs.Indexing.{listed_more, numbered_more}
use Rattle.constriction_calls.proofs.store.indexing.put_index.Goals as goal

pub loop-i-preserved : goal.loop-i-preserved
loop-i-preserved g c =
    let index = c.args.index.now in
    let lists = c.loop-i in
    let i = lists.i in
    let kept = lists.invariant in
    let inside : i < length index = omega (arith, c.loop-i-test.true) in
    let state = g.State.Natural.number in
    record {
      places = listed_more (λ (e : Entry). e.place) entry_at index i c.index-index-i.result inside lists.positions _ kept.places refl kept.count;
      lowers_are = numbered_more (λ (e : Entry). e.lower) entry_at index i c.index-index-i-in-loop-i.result inside state lists.lowers _ kept.lowers_are c.lower.ensures kept.count_lowers;
      ranges_are = numbered_more (λ (e : Entry). e.range) entry_at index i c.index-index-i-in-loop-i.result inside state lists.ranges _ kept.ranges_are (c.from_nonzero.ensures ∙ c.range.ensures) kept.count_ranges;
      count = length-set lists.positions i _ ∙ kept.count;
      count_lowers = length-set lists.lowers i _ ∙ kept.count_lowers;
      count_ranges = length-set lists.ranges i _ ∙ kept.count_ranges;
    }

pub returns : goal.returns
returns g c =
    let index = c.args.index.now in
    let lists = c.loop-i in
    let kept = lists.invariant in
    let past : length index ≤ lists.i = omega (arith, c.loop-i-test.false) in
    let whole = take_all lists.i index past in
    record {
      positions = sym (take_all lists.i lists.positions (omega (arith, past, kept.count))) ∙ (rw whole at kept.places);
      lowers = rw (take_all lists.i lists.lowers (omega (arith, past, kept.count_lowers)), whole) at kept.lowers_are;
      ranges = rw (take_all lists.i lists.ranges (omega (arith, past, kept.count_ranges)), whole) at kept.ranges_are;
    }
