use Rattle.std.specs.Prelude.{Err}
use Rattle.std.proofs.Common.{◌∙◌, ℕ, [], ◌∷◌, ◌++◌, length, length-append, refl, ap, arith}
use Rattle.constriction_base.specs.Models.{Model}
use Rattle.constriction_base.specs.Steps.{Step}
use Rattle.constriction_queue.specs.Calls.{DecodeCall}
use Rattle.constriction_queue.specs.Decoder.{quantile_read}
use Rattle.constriction_queue.specs.Range.{narrowed_by}
use Rattle.constriction_queue.proofs.Pointing.{takes_is}
use Rattle.constriction_stream.proofs.Outcomes.{decoded_by}
use Rattle.constriction_store.proofs.Symbols.{found_more, quantile_is}
use Rattle.constriction_queue.proofs.Decoders.{only_invalid}
use Rattle.constriction_store.proofs.looking_up.decode_chunk.Goals as goal

pub loop-init : goal.loop-init
loop-init g c = record {
  count = rw c.new-symbols.ensures.items refl;
  read = λ words there at. (there, rw c.new-symbols.ensures.items refl, at);
}

pub returns-in-Err-clause-err : goal.returns-in-Err-clause-err
returns-in-Err-clause-err g c = λ words there at.
    let w = g.Word.Natural.BITS in
    let s = g.State.Natural.BITS in
    let model : Model ℕ = record { precision = g.row.PRECISION; table = g.M.EntropyModel.table c.args.model.now } in
    let here = c.loop.invariant.read words there at in
    let d = c.loop.decoder in
    let one = decoded_by (DecodeCall _ _ _ w s) (λ _ _ _. ⊥) _ _ _ _ _ c.in-Ok.ensures.step in
    let e : Step = record { precision = g.row.PRECISION; left = one.0; p = one.1 } in
    let takes = takes_is w s g.row.PRECISION one.0 one.1 words here.0 d.lower d.range d.point (quantile_read s g.row.PRECISION d) d.words refl one.3.from one.3.below here.2 in
    let more = found_more w s words model c.loop.symbols.items c.in-Ok.symbol there here.0 (narrowed_by w s e here.0) here.1 (one.0, one.1, one.2, (takes, refl)) in
    let count = length-append c.loop.symbols.items (c.in-Ok.symbol ∷ []) in
    (c.loop.symbols.items ++ c.in-Ok.symbol ∷ [], narrowed_by w s e here.0, more, omega (arith, count), omega (arith, count, c.loop.invariant.count, c.loop-test.true))

pub returns-in-Err-Frontend-clause-err : goal.returns-in-Err-Frontend-clause-err
returns-in-Err-Frontend-clause-err g c = λ words there at.
    let w = g.Word.Natural.BITS in
    let s = g.State.Natural.BITS in
    let here = c.loop.invariant.read words there at in
    let refusal = c.in-Err-Frontend.is ∙ ap Err c.in-Err-Frontend.field-0-is in
    let halted = c.decode_symbol.ensures.variant.0 (rw (only_invalid c.in-Err-Frontend.field-0-0) at refusal) in
    (c.loop.symbols.items, here.0, here.1, omega (arith, c.loop.invariant.count, c.loop-test.true), rw (quantile_is w s g.row.PRECISION words here.0 c.loop.decoder here.2) at halted)

pub loop-preserved : goal.loop-preserved
loop-preserved g c =
    let w = g.Word.Natural.BITS in
    let s = g.State.Natural.BITS in
    let model : Model ℕ = record { precision = g.row.PRECISION; table = g.M.EntropyModel.table c.args.model.now } in
    let d = c.loop.decoder in
    let one = decoded_by (DecodeCall _ _ _ w s) (λ _ _ _. ⊥) _ _ _ _ _ c.in-Ok.ensures.step in
    let e : Step = record { precision = g.row.PRECISION; left = one.0; p = one.1 } in
    let items = c.in-Ok-push.ensures.items in
    record {
      count = omega (arith, ap length items, length-append c.loop.symbols.items (c.in-Ok.symbol ∷ []), c.loop.invariant.count);
      read = λ words there at.
          let here = c.loop.invariant.read words there at in
          let takes = takes_is w s g.row.PRECISION one.0 one.1 words here.0 d.lower d.range d.point (quantile_read s g.row.PRECISION d) d.words refl one.3.from one.3.below here.2 in (
            narrowed_by w s e here.0,
            rw items (found_more w s words model c.loop.symbols.items c.in-Ok.symbol there here.0 (narrowed_by w s e here.0) here.1 (one.0, one.1, one.2, (takes, refl))),
            one.3.read tt words here.0 here.2,
          );
    }
