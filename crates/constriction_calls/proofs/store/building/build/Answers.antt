use Rattle.std.proofs.Common.{◌∙◌, length, map, refl, ap, arith, rules}
use Rattle.std.proofs.lemmas.List.{length-map}
use Rattle.constriction_store.specs.Stores.{entry_at}
use Rattle.constriction_inputs.specs.Weights.{IsTotal}
use Rattle.constriction_inputs.proofs.Stacked.{lie_within}
use Rattle.constriction_calls.proofs.StoreAnswers.{kept_store, space_refused}
use Rattle.constriction_calls.proofs.StoreIndex.{as_many}
use Rattle.constriction_calls.proofs.store.building.build.Goals as goal

pub put_index-requires : goal.put_index-requires
put_index-requires g c =
    let items = c.in-Some.index.items in
    let fit = c.if-not-fit.ensures.0 refl in
    let many = as_many _ _ _ c.args.symbols.now c.args.lengths.now (map entry_at items) _ _ (omega (arith, fit.all)) c.in-Some.ensures.built.1 in
    let mapped = length-map items entry_at in
    let same = ap length c.deref-in-Ok.ensures.value in
    record { positions = omega (arith, fit.positions_are); lowers = omega (arith, fit.lowers_are); ranges = omega (arith, fit.ranges_are) }

pub returns-in-Ok : goal.returns-in-Ok
returns-in-Ok g c =
    let number = g.Word.Natural.number in
    let made = c.in-Some in
    let weights = map g.P.Natural.number c.args.weights.now in
    let fit = c.if-not-fit.ensures.0 refl in
    let same = c.deref-in-Ok.ensures.value in
    record {
      call = kept_store number g.State.Natural.number g.Word.Natural.BITS g.State.Natural.BITS g.row.PRECISION weights c.args.symbols.now c.args.lengths.now _ fit (search rules)
          (map entry_at made.index.items) (map number made.made.items) made.ensures.built _ made.ensures.chunks
          (c.put_index.ensures.positions ∙ ap (λ is. map (λ e. e.place) (map entry_at is)) same)
          (c.put_index.ensures.lowers ∙ ap (λ is. map (λ e. e.lower) (map entry_at is)) same)
          (c.put_index.ensures.ranges ∙ ap (λ is. map (λ e. e.range) (map entry_at is)) same)
          (ap (map number) (c.in-Ok.ensures.ok.words ∙ c.deref.ensures.value))
          (lie_within c.args.words.now c.deref.result.now c.append.new.buffer 0 c.append.new.len (omega arith) c.in-Ok.ensures.ok) c.in-Ok.ensures.ok.behind;
    }

pub returns : goal.returns
returns g c =
    let number = g.Word.Natural.number in
    let made = c.in-Some in
    let weights = map g.P.Natural.number c.args.weights.now in
    let fit = c.if-not-fit.ensures.0 refl in
    let total : IsTotal g.row.PRECISION weights = search rules in
    record {
      call = space_refused number g.State.Natural.number g.Word.Natural.BITS g.State.Natural.BITS g.row.PRECISION weights c.args.symbols.now c.args.lengths.now _ fit total
          (map entry_at made.index.items) (map number made.made.items) made.ensures.built _
          (ap (λ ws. record { positions = c.args.positions.now; lowers = c.args.lowers.now; ranges = c.args.ranges.now; words = ws; len = c.args.len.now }) c.in-Err.ensures.kept.0)
          c.in-Err.refusal _ (omega (arith, length-map made.made.items number, ap length c.deref.ensures.value)) c.in-Err.ensures.full c.in-Err.ensures.err;
    }
