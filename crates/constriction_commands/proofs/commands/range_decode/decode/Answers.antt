use Rattle.std.proofs.Common.{Err, [], ◌∷◌, length, length-append, refl, ◌∙◌, ap, arith}
use Rattle.constriction_queue.specs.Calls.{DecodeCall}
use Rattle.constriction_queue.specs.Range.{initial, narrowed_by}
use Rattle.constriction_base.proofs.Trace.{Trace-symbol}
use Rattle.constriction_stream.proofs.Outcomes.{decoded_by}
use Rattle.constriction_queue.proofs.Decoders.{only_invalid}
use Rattle.constriction_commands.specs.Coding.{of_24_bits}
use Rattle.constriction_queue.specs.Symbols.{Finds}
use Rattle.constriction_commands.proofs.Ranges.{quantile_is}
use Rattle.constriction_commands.proofs.commands.range_decode.decode.Goals as goal

pub loop-init : goal.loop-init
loop-init g c = record {
  counted = rw c.new-symbols.ensures.items refl;
  read = (initial 64, c.decoder_of-coder.ensures, rw c.new-symbols.ensures.items refl);
}

pub loop-preserved : goal.loop-preserved
loop-preserved g c =
    let words = c.args.words.now in
    let model = of_24_bits (g.M.EntropyModel.table c.args.model.now) in
    let here = c.loop.invariant.read in
    let one = decoded_by (DecodeCall _ _ _ 32 64) (λ _ _ _. ⊥) _ _ _ _ _ c.in-Ok.ensures.step in
    let quantile = quantile_is words here.0 c.loop.coder here.1 in
    let more = c.in_ok-push-in-Ok.ensures.items in
    record {
      counted = omega (arith, ap length more, length-append c.loop.symbols.items (c.in-Ok.symbol ∷ []), c.loop.invariant.counted);
      read = (
        narrowed_by 32 64 (record { precision = 24; left = one.0; p = one.1 }) here.0,
        one.3.read tt words here.0 here.1,
        rw more (Trace-symbol (λ item. Finds 32 64 words item.model item.symbol) model c.loop.symbols.items c.in-Ok.symbol _ _ _ here.2
            (one.0, one.1, one.2, (record { from = rw quantile at one.3.from; below = rw quantile at one.3.below }, refl))),
      );
    }

pub returns-clause-ok : goal.returns-clause-ok
returns-clause-ok g c = (c.loop.invariant.read.0, c.loop.invariant.read.2)

pub returns-in-Err-Frontend-InvalidData-clause-err : goal.returns-in-Err-Frontend-InvalidData-clause-err
returns-in-Err-Frontend-InvalidData-clause-err g c =
    let words = c.args.words.now in
    let here = c.loop.invariant.read in
    let refusal = c.in-Err-Frontend-InvalidData.is ∙ ap Err c.in-Err-Frontend-InvalidData.field-0-is in
    let halted = c.decode_symbol.ensures.variant.0 (rw (only_invalid c.in-Err-Frontend-InvalidData.field-0-0) at refusal) in (
      c.loop.symbols.items,
      here.0,
      here.2,
      omega (arith, c.loop.invariant.counted, c.loop-test.true),
      rw (quantile_is words here.0 c.loop.coder here.1) at halted,
    )
