use Rattle.std.specs.Prelude.{◌≡◌, ◌^◌, Ok}
use Rattle.std.proofs.Common.{ap, refl}
use Rattle.std.proofs.lemmas.Bool.{false≢true}
use Rattle.constriction_base.specs.Digits.{fixed_digits}
use Rattle.constriction_base.proofs.Written.{not_written}
use Rattle.constriction_stack.proofs.BinaryForms.{no_words_of_one, one_is_above}
use Rattle.constriction_stack.proofs.coder.AnsCoder.into_binary.Goals as goal

pub returns-in_default-clause-untouched : goal.returns-in_default-clause-untouched
returns-in_default-clause-untouched g c = rw (← c.self.view_is) (λ one. absurd (c.in_default.ensures.none 0 (one_is_above g.Word.Natural.BITS (g.State.Natural.number c.self.inside.state) one)))

pub returns-in_default-clause-variant : goal.returns-in_default-clause-variant
returns-in_default-clause-variant g c = rw (← c.self.view_is) (λ is m i. c.in_default.ensures.none m i, λ none. refl)

pub returns-in-Ok-clause-ok : goal.returns-in-Ok-clause-ok
returns-in-Ok-clause-ok g c = rw (← c.self.view_is) (c.in-Some.below, c.in-Some.ensures.value, c.in-Ok.ensures.written.words)

pub returns-in-Ok-clause-untouched : goal.returns-in-Ok-clause-untouched
returns-in-Ok-clause-untouched g c = rw (← c.self.view_is) (λ one.
    let head = g.State.Natural.number c.self.inside.state in
    let none = no_words_of_one g.Word.Natural.BITS c.in-Some.below head c.self.invariant.some_bits one c.in-Some.ensures.value in
    ap Ok (c.in-Ok.ensures.written.untouched (ap (λ n. fixed_digits (2 ^ g.Word.Natural.BITS) n head) none)).1)

pub returns-in-Ok-clause-variant : goal.returns-in-Ok-clause-variant
returns-in-Ok-clause-variant g c = rw (← c.self.view_is) (λ is m i. absurd cc, λ none. absurd (none c.in-Some.below c.in-Some.ensures.value))

pub returns-in-Err-clause-untouched : goal.returns-in-Err-clause-untouched
returns-in-Err-clause-untouched g c = rw (← c.self.view_is) (λ one.
    let head = g.State.Natural.number c.self.inside.state in
    let none = no_words_of_one g.Word.Natural.BITS c.in-Some.below head c.self.invariant.some_bits one c.in-Some.ensures.value in
    absurd (false≢true (c.in-Err.ensures.written.untouched (ap (λ n. fixed_digits (2 ^ g.Word.Natural.BITS) n head) none)).0))

pub returns-in-Err-clause-variant : goal.returns-in-Err-clause-variant
returns-in-Err-clause-variant g c = rw (← c.self.view_is) (λ is m i. absurd cc, λ none. absurd (none c.in-Some.below c.in-Some.ensures.value))

pub returns-in-Err-clause-err : goal.returns-in-Err-clause-err
returns-in-Err-clause-err g c =
    let refused = not_written g.Word.Natural.number g.Backend.Holds g.Backend.WriteWords _ _ _ _ c.in-Err.ensures.written in
    rw (← c.self.view_is) (λ e is.
    let same : e ≡ c.in-Err.error = cc in
    rw same (c.in-Some.below, c.in-Some.ensures.value, refused))
