use Rattle.constriction_queue.proofs.flagged.FlagSwitch.next_symbol.Goals as goal

pub returns-then-self-clause-step : goal.returns-then-self-clause-step
returns-then-self-clause-step g c = rw (← c.self.view_is, c.if-self.true) c.decode_symbol.ensures.step

pub returns-in-Ok-clause-step : goal.returns-in-Ok-clause-step
returns-in-Ok-clause-step g c = rw (← c.self.view_is, c.if-self.false) c.in-Ok.ensures.step

pub returns-clause-step : goal.returns-clause-step
returns-clause-step g c = rw (← c.self.view_is, c.if-self.false) c.in-Err.ensures.step
