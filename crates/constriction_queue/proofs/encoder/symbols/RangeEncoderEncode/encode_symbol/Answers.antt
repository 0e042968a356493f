use Rattle.std.specs.Prelude.{Ok, Err}
use Rattle.std.proofs.Common.{inl, refl}
use Rattle.constriction_base.proofs.Entering.{entry_is_step}
use Rattle.constriction_queue.proofs.encoder.symbols.RangeEncoderEncode.encode_symbol.Goals as goal

pub encode_interval-requires-clause-step : goal.encode_interval-requires-clause-step
encode_interval-requires-clause-step g c =
    entry_is_step _ _ _ _ _ _ _ (g.M.EntropyModel.lawful c.args.model) c.in-Some.ensures.found (g.met.M.EntropyModel.sized c.args.model) g.met.M.Probability.WordOf.width_law

pub returns-in-Ok-clause-step : goal.returns-in-Ok-clause-step
returns-in-Ok-clause-step g c = inl (_, _, c.in-Some.ensures.found, (Ok tt, c.in-Ok.ensures, refl))

pub returns-clause-step : goal.returns-clause-step
returns-clause-step g c = inl (_, _, c.in-Some.ensures.found, (Err c.in-Err.refusal, c.in-Err.ensures, refl))
