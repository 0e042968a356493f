use Rattle.std.specs.Prelude.{◌≡◌, ℕ, List}
use Rattle.std.proofs.Common.{ap, refl, sym}
use Rattle.constriction_stack.specs.Ans.{AnsState}
use Rattle.constriction_stack.proofs.Guards.{taken_off}
use Rattle.constriction_stack.proofs.coder.AnsCoder.put_binary.Goals as goal

pub returns-in_default-clause-frontend : goal.returns-in_default-clause-frontend
returns-in_default-clause-frontend g c = rw (← c.self.view_is) (λ is m i. c.in_default.ensures.none m i, λ none. refl)

pub returns-clause-shows : goal.returns-clause-shows
returns-clause-shows g c =
    let state : List ℕ → AnsState = λ ws. record { head = g.State.Natural.number c.self.inside.state; words = ws } in
    rw (← c.self.view_is) (c.in-Some.count, c.in-Some.ensures.value, ap state c.in-Ok.ensures.words)

pub returns-clause-back : goal.returns-clause-back
returns-clause-back g c =
    rw (← c.self.view_is) (sym (taken_off g.Word.Natural.number (g.State.Natural.number c.self.inside.state) c.in-Some.count (g.Backend.Holds.words c.show_words.new.bulk) (g.Backend.Holds.words c.self.inside.bulk) (sym c.in-Ok.ensures.back)))

pub returns-clause-frontend : goal.returns-clause-frontend
returns-clause-frontend g c = rw (← c.self.view_is) (λ is m i. absurd cc, λ none. absurd (none c.in-Some.count c.in-Some.ensures.value))

pub returns-in-Err-clause-frontend : goal.returns-in-Err-clause-frontend
returns-in-Err-clause-frontend g c = rw (← c.self.view_is) (λ is m i. absurd cc, λ none. absurd (none c.in-Some.count c.in-Some.ensures.value))

pub returns-in-Err-clause-err : goal.returns-in-Err-clause-err
returns-in-Err-clause-err g c =
    rw (← c.self.view_is) (λ e is.
    let same : e ≡ c.in-Err.error = cc in
    rw same (c.in-Some.count, c.in-Some.ensures.value, c.in-Err.ensures.err))

pub returns-in-Err-clause-kept : goal.returns-in-Err-clause-kept
returns-in-Err-clause-kept g c = rw (← c.self.view_is) (c.in-Some.count, c.in-Some.ensures.value, c.in-Err.ensures.kept)
