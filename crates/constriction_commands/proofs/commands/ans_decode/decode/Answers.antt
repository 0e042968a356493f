use Rattle.std.proofs.Common.{[], ◌∷◌, arith, length, length-append, ap}
use Rattle.constriction_stack.specs.Ans.{DecodeCall}
use Rattle.constriction_stack.specs.Symbols.{Decodes}
use Rattle.constriction_base.proofs.Trace.{Trace-symbol}
use Rattle.constriction_stream.proofs.Outcomes.{decoded_by}
use Rattle.constriction_commands.specs.Coding.{of_24_bits}
use Rattle.constriction_commands.proofs.commands.ans_decode.decode.Goals as goal

pub loop-preserved : goal.loop-preserved
loop-preserved g c =
    let model = of_24_bits (g.M.EntropyModel.table c.args.model.now) in
    let one = decoded_by (DecodeCall _ _ _ 32 64) (λ _ _ _. ⊥) _ _ _ _ _ c.in-Ok.ensures.step in
    let more = c.in_ok-push-in-Ok.ensures.items in
    record {
      counted = omega (arith, ap length more, length-append c.loop.symbols.items (c.in-Ok.symbol ∷ []), c.loop.invariant.counted);
      decoded = rw more (Trace-symbol (λ item. Decodes 32 64 item.model item.symbol) model c.loop.symbols.items c.in-Ok.symbol _ _ _ c.loop.invariant.decoded (one.0, one.1, one.2, (one.3.is_next, one.3.popped tt)));
    }
