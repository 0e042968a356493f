use Rattle.std.proofs.Common.{arith, refl, inr, ap, ◌∙◌, List, ℕ, Err}
use Rattle.constriction_base.specs.Models.{pairs_of}
use Rattle.constriction_base.proofs.Trace.{Trace-more}
use Rattle.constriction_chain.specs.Symbols.{ChainDecodesOne}
use Rattle.constriction_inputs.proofs.Pairs.{pairs_next}
use Rattle.constriction_calls.proofs.ChainPlaces.{ends_pairs}
use Rattle.constriction_chain.proofs.Ended.{ends_at}
use Rattle.constriction_calls.proofs.chain.decoding.decode_with_list.Goals as goal

pub loop-place-preserved : goal.loop-place-preserved
loop-place-preserved g c =
    let own = λ (t : List (ℕ × ℕ × ℕ)). t in
    let kept = c.loop-place.invariant in
    let step = c.in-Ok-decode_symbol.ensures.step in
    let xs = c.loop-place.symbols.items in
    let ms = g.L.DecoderModelList.tables c.args.models.now in
    let at = rw (c.select.ensures.place, c.select.ensures.tables, kept.tables) at c.model.ensures in
    let next = pairs_next g.row.PRECISION own xs ms c.in-Ok-decode_symbol.symbol (g.L.Model.EntropyModel.table c.model.result.now) (omega (arith, kept.count, c.loop-place-test.true, c.requires)) (rw kept.count at) in
    record {
      count = omega (arith, c.push_reserved.ensures.len, kept.count);
      capacity = omega (arith, c.push_reserved.ensures.capacity, kept.capacity);
      taken = rw (c.push_reserved.ensures.items, next)
          (Trace-more (λ item. ChainDecodesOne g.Word.Natural.BITS g.State.Natural.BITS item.model item.symbol) (pairs_of g.row.PRECISION own xs ms) _ c.args.coder.now.state c.loop-place.coder.state
          c.decode_symbol.new.self.state kept.taken (step.0, step.1, step.2, step.3.outcome.decoded tt));
      tables = c.select.ensures.tables ∙ kept.tables;
    }

pub returns-in-Err-Frontend-clause-err : goal.returns-in-Err-Frontend-clause-err
returns-in-Err-Frontend-clause-err g c =
    let w = g.Word.Natural.BITS in
    let s = g.State.Natural.BITS in
    let kept = c.loop-place.invariant in
    let stop = ends_at g.Word.Natural.number _ _ _ _ w s g.row.PRECISION _ c.loop-place.coder c.decode_symbol.new.self c.in-Err-Frontend.field-0-0 tt
    (rw (c.in-Err-Frontend.is ∙ ap Err c.in-Err-Frontend.field-0-is) at c.decode_symbol.ensures.step) in
    inr (
      refl,
      ends_pairs w s g.row.PRECISION (λ (table : List (ℕ × ℕ × ℕ)). table) c.loop-place.symbols.items (g.L.DecoderModelList.tables c.args.models.now) c.args.count c.loop-place.place
          c.args.coder.now.state c.loop-place.coder.state kept.count c.loop-place-test.true c.requires kept.taken stop,
    )
