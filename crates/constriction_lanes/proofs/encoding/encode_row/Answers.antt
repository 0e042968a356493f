use Rattle.std.proofs.Common.{◌≡◌, ◌∙◌, [], arith, drop, inr, length, refl, take}
use Rattle.std.proofs.lemmas.List.{drop_all, length-drop, length-take-le}
use Rattle.constriction_inputs.proofs.Places.{is_step, models_more}
use Rattle.constriction_calls.proofs.AnsPlaces.{codes_more}
use Rattle.constriction_lanes.proofs.RowItems.{at_row}
use Rattle.constriction_lanes.proofs.encoding.encode_row.Goals as goal

pub loop-rest-init : goal.loop-rest-init
loop-rest-init g c =
    let all = g.L.ItemList.list_items c.args.list.now in
    let count = length c.args.row.now in
    let items = take count (drop c.args.first all) in
    let long : length items ≡ count = length-take-le count (drop c.args.first all) (omega (arith, length-drop c.args.first all, c.requires.items)) in
    let end : drop count items ≡ [] = drop_all count items (omega (arith, long)) in
    record {
      same = refl;
      within = omega arith;
      room = omega arith;
      long = refl;
      valid = record { state = record { fits = g.met.State.Natural.number_law c.args.head; are_words = tt }; full = inr refl };
      models = rw end tt;
      coded = rw end refl;
    }

pub encode_interval-next-requires-clause-step : goal.encode_interval-next-requires-clause-step
encode_interval-next-requires-clause-step g c =
    let all = g.L.ItemList.list_items c.args.list.now in
    let count = length c.args.row.now in
    let kept = c.loop-rest.invariant in
    let at = at_row all c.args.first count c.loop-rest.rest _ c.loop-rest-test.true kept.within (rw kept.same at c.in_ok-found.ensures.found) in
    is_step g.Word.Natural.BITS g.row.PRECISION g.P.Natural.BITS g.met.P.WordOf.width_law (take count (drop c.args.first all)) c.loop-rest.rest c.loop-rest-test.true _ _ at

pub loop-rest-preserved : goal.loop-rest-preserved
loop-rest-preserved g c =
    let w = g.Word.Natural.BITS in
    let all = g.L.ItemList.list_items c.args.list.now in
    let count = length c.args.row.now in
    let items = take count (drop c.args.first all) in
    let kept = c.loop-rest.invariant in
    let call = c.encode_interval-next in
    let pushed = call.ensures.encoded kept.valid in
    let at = at_row all c.args.first count c.loop-rest.rest _ c.loop-rest-test.true kept.within (rw kept.same at c.in_ok-found.ensures.found) in
    record {
      same = c.in_ok-found.ensures.items ∙ kept.same;
      within = omega (arith, kept.within);
      room = omega (arith, kept.room, call.ensures.more.1, c.loop-rest-test.true);
      long = call.auto.words ∙ kept.long;
      valid = pushed.valid;
      models = models_more w g.row.PRECISION g.P.Natural.BITS g.met.P.WordOf.width_law items c.loop-rest.rest c.loop-rest-test.true _ _ at kept.models;
      coded = codes_more w g.State.Natural.BITS g.row.PRECISION g.P.Natural.BITS items c.loop-rest.rest c.loop-rest-test.true _ _ at _ _ _ kept.coded pushed;
    }

pub returns-clause-coded : goal.returns-clause-coded
returns-clause-coded g c =
    let kept = c.loop-rest.invariant in
    let zero : c.loop-rest.rest ≡ 0 = omega (arith, c.loop-rest-test.false) in
    record {
      models = rw zero at kept.models;
      coded = rw zero at kept.coded;
      within = omega (arith, kept.room, kept.long);
    }
