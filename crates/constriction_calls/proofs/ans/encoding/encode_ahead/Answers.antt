use Rattle.std.proofs.Common.{◌≡◌, ◌∙◌, ◌<◌, ◌-◌, ℕ, [], ap, arith, drop, inr, length, map, refl, reverse, subst}
use Rattle.std.proofs.lemmas.List.{drop_all}
use Rattle.constriction_stack.specs.Ans.{AnsState}
use Rattle.constriction_inputs.specs.Items.{HasAt, HasInterval}
use Rattle.constriction_inputs.proofs.Places.{is_step, models_more}
use Rattle.constriction_calls.proofs.AnsPlaces.{codes_more}
use Rattle.constriction_calls.proofs.ans.encoding.encode_ahead.Goals as goal

pub loop-rest-init : goal.loop-rest-init
loop-rest-init g c =
    let items = g.L.ItemList.list_items c.args.list.now in
    let none : c.from_raw_parts-coder.result.state.words ≡ [] = ap (λ (x : AnsState). x.words) c.from_raw_parts-coder.ensures.state ∙ ap (λ ws. map g.Word.Natural.number (reverse ws)) c.new.ensures.items in
    let end : drop (length items) items ≡ [] = drop_all (length items) items (omega arith) in
    let some : 0 < c.count-rest.result = omega (arith, c.if-rest-eq0.false) in
    record {
      same = c.in_ok-found.ensures.items;
      some = some;
      within = omega (arith, c.count-rest.ensures);
      valid = record { state = record { fits = c.from_raw_parts-coder.ensures.coder.head_fits; are_words = rw none tt }; full = inr none };
      models = rw (c.count-rest.ensures, end) tt;
      coded = rw (c.count-rest.ensures, end) refl;
      at = c.in_ok-found.ensures.found;
      reciprocal = c.in_ok-found.ensures.reciprocal;
    }

pub encode_interval-requires-clause-step : goal.encode_interval-requires-clause-step
encode_interval-requires-clause-step g c =
    is_step g.Word.Natural.BITS g.row.PRECISION g.P.Natural.BITS g.met.P.WordOf.width_law (g.L.ItemList.list_items c.args.list.now) c.loop-rest.rest c.loop-rest.invariant.some _ _ c.loop-rest.invariant.at

pub loop-rest-preserved : goal.loop-rest-preserved
loop-rest-preserved g c =
    let items = g.L.ItemList.list_items c.args.list.now in
    let kept = c.loop-rest.invariant in
    let pushed = c.in-Ok.ensures.pushed kept.valid in
    let one : c.loop-rest.rest - 2 ≡ c.loop-rest.rest - 1 - 1 = omega arith in
    record {
      same = c.in_ok-next.ensures.items ∙ kept.same;
      some = omega (arith, c.loop-rest-test.true);
      within = omega (arith, kept.within);
      valid = pushed.valid;
      models = models_more g.Word.Natural.BITS g.row.PRECISION g.P.Natural.BITS g.met.P.WordOf.width_law items c.loop-rest.rest kept.some _ _ kept.at kept.models;
      coded = codes_more g.Word.Natural.BITS g.State.Natural.BITS g.row.PRECISION g.P.Natural.BITS items c.loop-rest.rest kept.some _ _ kept.at _ c.loop-rest.coder.state c.encode_interval.new.self.state kept.coded pushed;
      at = subst (λ (n : ℕ). HasAt items n (HasInterval g.row.PRECISION g.P.Natural.BITS (g.P.Natural.number c.in_ok-next.next.0) (g.P.BitArray.nonzero_number c.in_ok-next.next.1))) one (rw kept.same at c.in_ok-next.ensures.found);
      reciprocal = c.in_ok-next.ensures.reciprocal;
    }

pub encode_interval-requires-2-clause-step : goal.encode_interval-requires-2-clause-step
encode_interval-requires-2-clause-step g c =
    is_step g.Word.Natural.BITS g.row.PRECISION g.P.Natural.BITS g.met.P.WordOf.width_law (g.L.ItemList.list_items c.args.list.now) c.loop-rest.rest c.loop-rest.invariant.some _ _ c.loop-rest.invariant.at

pub returns-in-Ok-encode_interval : goal.returns-in-Ok-encode_interval
returns-in-Ok-encode_interval g c =
    let items = g.L.ItemList.list_items c.args.list.now in
    let kept = c.loop-rest.invariant in
    let pushed = c.in-Ok-encode_interval.ensures.pushed kept.valid in
    let zero : c.loop-rest.rest - 1 ≡ 0 = omega (arith, c.loop-rest-test.false) in
    let empty = ap (λ ws. map g.Word.Natural.number (reverse ws)) c.new.ensures.items in
    record {
      models = rw zero at (models_more g.Word.Natural.BITS g.row.PRECISION g.P.Natural.BITS g.met.P.WordOf.width_law items c.loop-rest.rest kept.some _ _ kept.at kept.models);
      coded = rw (c.from_raw_parts-coder.ensures.state, empty, c.into_raw_parts-in-Ok-encode_interval.ensures.state) at
          (rw zero at (codes_more g.Word.Natural.BITS g.State.Natural.BITS g.row.PRECISION g.P.Natural.BITS items c.loop-rest.rest kept.some _ _ kept.at _ c.loop-rest.coder.state c.encode_interval-2.new.self.state kept.coded pushed));
    }
