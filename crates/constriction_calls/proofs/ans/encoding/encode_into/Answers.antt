use Rattle.std.proofs.Common.{◌≡◌, ◌∙◌, [], arith, drop, inr, length, refl}
use Rattle.std.proofs.lemmas.List.{drop_all}
use Rattle.constriction_inputs.proofs.Places.{is_step, models_more}
use Rattle.constriction_calls.proofs.AnsPlaces.{codes_more}
use Rattle.constriction_calls.proofs.ans.encoding.encode_into.Goals as goal

pub loop-rest-init : goal.loop-rest-init
loop-rest-init g c =
    let items = g.L.ItemList.list_items c.args.list.now in
    let count = length c.args.room.now in
    let end : drop count items ≡ [] = drop_all count items (omega (arith, c.requires.room)) in
    record {
      same = refl;
      within = omega arith;
      free = omega arith;
      long = refl;
      valid = record { state = record { fits = g.met.State.Natural.number_law c.args.head; are_words = tt }; full = inr refl };
      models = rw end tt;
      coded = rw end refl;
    }

pub overflow_cast-bits : goal.overflow_cast-bits
overflow_cast-bits g c =
    let items = g.L.ItemList.list_items c.args.list.now in
    let step = is_step g.Word.Natural.BITS g.row.PRECISION g.P.Natural.BITS g.met.P.WordOf.width_law items c.loop-rest.rest c.loop-rest-test.true _ _ (rw c.loop-rest.invariant.same at c.in_ok-found.ensures.found) in
    omega (arith, step.within_word, g.met.Word.Natural.bits_law.1)

pub encode_onto-next-requires-clause-step : goal.encode_onto-next-requires-clause-step
encode_onto-next-requires-clause-step g c =
    let items = g.L.ItemList.list_items c.args.list.now in
    let step = is_step g.Word.Natural.BITS g.row.PRECISION g.P.Natural.BITS g.met.P.WordOf.width_law items c.loop-rest.rest c.loop-rest-test.true _ _ (rw c.loop-rest.invariant.same at c.in_ok-found.ensures.found) in
    rw (c.widen-begin.ensures, c.widen.ensures, c.widen-length.ensures, c.widen-in-loop-rest.ensures, c.from_nonzero.ensures) step

pub loop-rest-preserved : goal.loop-rest-preserved
loop-rest-preserved g c =
    let w = g.Word.Natural.BITS in
    let items = g.L.ItemList.list_items c.args.list.now in
    let kept = c.loop-rest.invariant in
    let call = c.encode_onto-next in
    let pushed = rw (c.widen-begin.ensures, c.widen.ensures, c.widen-length.ensures, c.widen-in-loop-rest.ensures, c.from_nonzero.ensures) at (call.ensures.encoded kept.valid) in
    let at = rw kept.same at c.in_ok-found.ensures.found in
    record {
      same = c.in_ok-found.ensures.items ∙ kept.same;
      within = omega (arith, kept.within);
      free = omega (arith, kept.free, call.ensures.more.1, c.loop-rest-test.true);
      long = call.auto.words ∙ kept.long;
      valid = pushed.valid;
      models = models_more w g.row.PRECISION g.P.Natural.BITS g.met.P.WordOf.width_law items c.loop-rest.rest c.loop-rest-test.true _ _ at kept.models;
      coded = codes_more w g.State.Natural.BITS g.row.PRECISION g.P.Natural.BITS items c.loop-rest.rest c.loop-rest-test.true _ _ at _ _ _ kept.coded pushed;
    }
