use Rattle.std.proofs.Common.{◌≡◌, ◌∙◌, [], ◌∷◌, ◌++◌, length, drop, refl, sym, ap, subst, arith, rules}
use Rattle.std.specs.List.{zip}
use Rattle.std.specs.Slice.Iter.{iter_rest}
use Rattle.std.proofs.lemmas.List.{length-append}
use Rattle.constriction_laws.proofs.ListsGiven.{GavePairs, pairs_more, rest_after}
use Rattle.constriction_laws.proofs.round_trips.decode_by_models.Goals as goal

pub loop-answer-preserved : goal.loop-answer-preserved
loop-answer-preserved g c =
    let table = g.M.EntropyModel.table in
    let models = c.args.models.now in
    let kept = c.loop-answer.invariant in
    let on = c.in-Some.ensures.goes.on kept.1 in
    let given = c.in-Some.ensures.steps in
    let xs = c.loop-answer.symbols.items in
    let x = c.in-Ok.symbol in
    let before = c.loop-answer.answer-iterator in
    let after = c.next.new.self in
    let model = given.1.0 in
    let next : drop (length xs) models ≡ model.now ∷ iter_rest after.models = sym kept.3 ∙ given.1.1 in
    let more : c.push.new.self.items ≡ xs ++ x ∷ [] = c.in-Ok-push.ensures.items in (
      on.0,
      on.1,
      given.0 ∙ kept.2,
      rest_after models xs x (iter_rest after.models) model.now next ∙ ap (λ ys. drop (length ys) models) (sym more),
      omega (arith, ap length more, length-append xs (x ∷ []), kept.4, ap length given.1.1),
      subst (λ ys. GavePairs g.C.Decode.decodes g.C.Decode.halts g.row.PRECISION table (zip ys models) c.into_iter-answer-iterator.result.decoder.now after.decoder.now) (sym more)
          (pairs_more g.C.Decode.decodes g.C.Decode.halts g.row.PRECISION table models c.into_iter-answer-iterator.result.decoder.now xs before.decoder.now x model.now (iter_rest after.models) c.in-Some.answer after.decoder.now kept.5 next c.in-Ok.is given.1.2),
    )

pub returns-clause-steps : goal.returns-clause-steps
returns-clause-steps g c =
    let begun = ap (λ i. i.decoder.now) c.into_iter-answer-iterator.ensures.into_iter_gives ∙ c.decode_symbols-answer-items.ensures.decoder in
    let all = subst (λ d. GavePairs g.C.Decode.decodes g.C.Decode.halts g.row.PRECISION g.M.EntropyModel.table (zip c.loop-answer.symbols.items c.args.models.now) d c.loop-answer.answer-iterator.decoder.now) begun c.loop-answer.invariant.5 in
    subst (λ d. GavePairs g.C.Decode.decodes g.C.Decode.halts g.row.PRECISION g.M.EntropyModel.table (zip c.loop-answer.symbols.items c.args.models.now) c.args.decoder.now d) (search (rules, c.in-None.ensures.steps.1.1)) all

pub returns-clause-count : goal.returns-clause-count
returns-clause-count g c = omega (arith, c.loop-answer.invariant.4, c.in-None.ensures.steps.1.0.0)

pub returns-in-Err-clause-err : goal.returns-in-Err-clause-err
returns-in-Err-clause-err g c =
    let given = c.in-Some.ensures.steps in
    let kept = c.loop-answer.invariant in
    let models = c.args.models.now in
    let begun = ap (λ i. i.decoder.now) c.into_iter-answer-iterator.ensures.into_iter_gives ∙ c.decode_symbols-answer-items.ensures.decoder in (
      c.loop-answer.symbols.items,
      c.loop-answer.answer-iterator.decoder.now,
      given.1.0.now,
      _,
      search rules,
      omega (arith, kept.4, ap length given.1.1, c.len.ensures),
      sym kept.3 ∙ given.1.1,
      subst (λ d. GavePairs g.C.Decode.decodes g.C.Decode.halts g.row.PRECISION g.M.EntropyModel.table (zip c.loop-answer.symbols.items models) d c.loop-answer.answer-iterator.decoder.now) begun kept.5,
      search (rules, given.1.2, c.in-Err.is),
    )

pub returns-in_default-clause-err : goal.returns-in_default-clause-err
returns-in_default-clause-err g c =
    let table = g.M.EntropyModel.table in
    let models = c.args.models.now in
    let kept = c.loop-answer.invariant in
    let given = c.in-Some.ensures.steps in
    let xs = c.loop-answer.symbols.items in
    let x = c.in-Ok.symbol in
    let before = c.loop-answer.answer-iterator in
    let after = c.next.new.self in
    let model = given.1.0 in
    let begun = ap (λ i. i.decoder.now) c.into_iter-answer-iterator.ensures.into_iter_gives ∙ c.decode_symbols-answer-items.ensures.decoder in
    let next : drop (length xs) models ≡ model.now ∷ iter_rest after.models = sym kept.3 ∙ given.1.1 in
    let gave = subst (λ d. GavePairs g.C.Decode.decodes g.C.Decode.halts g.row.PRECISION table (zip xs models) d before.decoder.now) begun kept.5 in
    let all = pairs_more g.C.Decode.decodes g.C.Decode.halts g.row.PRECISION table models c.args.decoder.now xs before.decoder.now x model.now (iter_rest after.models) c.in-Some.answer after.decoder.now gave next c.in-Ok.is given.1.2 in (
      refl,
      xs ++ x ∷ [],
      omega (arith, length-append xs (x ∷ []), kept.4, ap length given.1.1),
      subst (λ d. GavePairs g.C.Decode.decodes g.C.Decode.halts g.row.PRECISION table (zip (xs ++ x ∷ []) models) c.args.decoder.now d) (search rules) all,
    )
