use Rattle.std.proofs.Common.{◌%◌, ◌^◌, [], ◌∷◌, map, arith, length, length-append, ap, ◌∙◌, inl, inr}
use Rattle.constriction_base.specs.Tables.{AtEntry}
use Rattle.constriction_chain.specs.Chain.{IsDecode}
use Rattle.constriction_base.proofs.Trace.{Trace-more}
use Rattle.constriction_commands.proofs.commands.chain_split.decode.Goals as goal

pub loop-preserved : goal.loop-preserved
loop-preserved g c =
    let table = g.M.EntropyModel.table c.args.model.now in
    let one = c.in-Ok.ensures.step in
    let more = c.in_ok-push-in-Ok.ensures.items in
    record {
      counted = omega (arith, ap length more, length-append c.loop.symbols.items (c.in-Ok.symbol ∷ []), c.loop.invariant.counted);
      decoded = rw more (Trace-more (λ symbol from to. AtEntry 24 table symbol (λ step. IsDecode 32 64 step from to)) c.loop.symbols.items c.in-Ok.symbol _ _ _ c.loop.invariant.decoded (one.0, one.1, one.2, one.3.outcome.decoded tt));
    }

pub returns-in-Err-Frontend-clause-err : goal.returns-in-Err-Frontend-clause-err
returns-in-Err-Frontend-clause-err g c = elim (rw c.in-Err-Frontend.field-0-is at c.in-Err-Frontend.ensures.step) [
  | inl halted ↦ (
    c.loop.symbols.items,
    c.loop.coder.state,
    c.loop.invariant.decoded,
    omega (arith, c.loop.invariant.counted, c.loop-test.true),
    halted.why.0,
    halted.before.compressed_are ∙ ap (map (λ x. x % 2 ^ 32)) halted.why.1.0.0.0,
  )
  | inr entry ↦ absurd entry.1.3.outcome
]
