use Rattle.std.proofs.Common.{◌≡◌, refl, sym, ◌∙◌}
use Rattle.std.specs.Int.NonZero.{non_zero_usize_get}
use Rattle.constriction_base.proofs.Written.{appends_none}
use Rattle.constriction_queue.proofs.writing.write_step.Goals as goal

pub returns-in_default-top-clause-written : goal.returns-in_default-top-clause-written
returns-in_default-top-clause-written g c = rw (c.in_default.is, c.in_default-top.is) (appends_none g.Word.Natural.number g.Backend.Holds g.Backend.WriteWords c.args.bulk.now)

pub returns-in_default-clause-written : goal.returns-in_default-clause-written
returns-in_default-clause-written g c = rw (c.in_default.is, c.in-Some-top.is) c.write_two.ensures.written

pub returns-in_default-clause-one : goal.returns-in_default-clause-one
returns-in_default-clause-one g c = λ none. c.write_two.ensures.one refl

pub returns-then-get-eq1-clause-written : goal.returns-then-get-eq1-clause-written
returns-then-get-eq1-clause-written g c =
    let one : non_zero_usize_get c.in-Some.held.count ≡ 1 = sym c.get.ensures.value ∙ c.if-get-eq1.true in
    rw (c.in-Some.is, one) c.write_two-then-get-eq1.ensures.written

pub returns-then-get-eq1-clause-one : goal.returns-then-get-eq1-clause-one
returns-then-get-eq1-clause-one g c = rw c.in-Some.is (λ none. absurd cc)

pub returns-clause-written : goal.returns-clause-written
returns-clause-written g c = rw c.in-Some.is c.flush_released.ensures

pub returns-clause-one : goal.returns-clause-one
returns-clause-one g c = rw c.in-Some.is (λ none. absurd cc)
