use Rattle.std.proofs.Common.{inl}
use Rattle.constriction_base.proofs.Entries.{in_range}
use Rattle.constriction_chain.proofs.coder.symbols.ChainCoderEncode.encode_symbol.Goals as goal

pub give-requires-clause-some : goal.give-requires-clause-some
give-requires-clause-some g c =
    let within = in_range _ _ _ _ _ _ (g.M.EntropyModel.lawful c.args.model).follow c.in-Some.ensures.found in
    rw (c.widen-p.ensures, c.from_nonzero.ensures) within.1

pub give-requires-clause-total : goal.give-requires-clause-total
give-requires-clause-total g c =
    let within = in_range _ _ _ _ _ _ (g.M.EntropyModel.lawful c.args.model).follow c.in-Some.ensures.found in
    rw (c.widen-left.ensures, c.widen-p.ensures, c.from_nonzero.ensures) within.2

pub returns-in-Ok-clause-step : goal.returns-in-Ok-clause-step
returns-in-Ok-clause-step g c =
    let call = rw (c.widen-left.ensures, c.widen-p.ensures, c.from_nonzero.ensures, c.numbers-h.ensures.parts) at c.in-Ok.ensures.step.ok in
    rw (← c.self.view_is, c.replace.ensures) (inl (_, _, c.in-Some.ensures.found, call))

pub returns-clause-step : goal.returns-clause-step
returns-clause-step g c =
    let call = rw (c.widen-left.ensures, c.widen-p.ensures, c.from_nonzero.ensures, c.numbers-h.ensures.parts) at c.in-Err.ensures.step.err in
    rw (← c.self.view_is) (inl (_, _, c.in-Some.ensures.found, call))

pub give-requires-clause-reciprocal : goal.give-requires-clause-reciprocal
give-requires-clause-reciprocal g c = rw (c.widen-p.ensures, c.from_nonzero.ensures) c.in-Some.ensures.reciprocal
