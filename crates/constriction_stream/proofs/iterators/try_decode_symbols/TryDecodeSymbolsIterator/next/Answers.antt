use Rattle.std.proofs.Common.{refl, Ok, Err}
use Rattle.constriction_stream.proofs.iterators.try_decode_symbols.TryDecodeSymbolsIterator.next.Goals as goal

pub returns-in-Ok-clause-steps : goal.returns-in-Ok-clause-steps
returns-in-Ok-clause-steps g c =
    (refl, (c.in-Some-Ok.field-0, c.in-Some-Ok.ensures.steps, rw c.in-Some-Ok.field-0-is (Ok c.in-Ok.symbol, c.in-Ok.ensures.step, refl)))

pub returns-in-Err-clause-steps : goal.returns-in-Err-clause-steps
returns-in-Err-clause-steps g c =
    (refl, (c.in-Some-Ok.field-0, c.in-Some-Ok.ensures.steps, rw c.in-Some-Ok.field-0-is (Err c.in-Err.error, c.in-Err.ensures.step, refl)))

pub returns-in-Some-Err-clause-steps : goal.returns-in-Some-Err-clause-steps
returns-in-Some-Err-clause-steps g c =
    (refl, (c.in-Some-Err.field-0, c.in-Some-Err.ensures.steps, rw c.in-Some-Err.field-0-is (refl, refl)))
