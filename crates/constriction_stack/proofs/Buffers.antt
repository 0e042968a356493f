-- Cursors behind the last word of a buffer.
use Rattle.std.specs.Prelude.{reverse, take}
use Rattle.std.proofs.Common.{◌≡◌, ℕ, List, ◌∷◌, length, map, ap, subst, ◌∙◌, arith, inl, inr}
use Rattle.std.proofs.lemmas.List.{take_all}
use Rattle.constriction_base.specs.Backends.{BufferPosition}
use Rattle.constriction_base.specs.Readings.{BeginsHigh}
use Rattle.constriction_stack.specs.Imports.{ListRefused}

-- below such a cursor stand all words
pub all_below : {B W : Type 0} (lent : B → List W) (buf : B) (cursor : BufferPosition B) → cursor ≡ record { buf = buf; pos = length (lent buf) } → reverse (take cursor.pos (lent cursor.buf)) ≡ reverse (lent buf)
all_below lent buf cursor is =
    ap (λ c. reverse (take c.pos (lent c.buf))) is ∙ ap reverse (take_all (length (lent buf)) (lent buf) (omega arith))

pub still_high : {W : Type 0} (number : W → ℕ) (ws vs : List W) → ws ≡ vs → BeginsHigh (map number ws) → BeginsHigh (map number vs)
still_high number ws vs is high = subst (λ xs. BeginsHigh (map number xs)) is high

-- where no read fails, an import is refused only for its zero word
pub refused_low : {W E : Type 0} (number : W → ℕ) (old rest : List W) → (E → ⊥) → ListRefused E number old rest → BeginsHigh (map number old) → ⊥
refused_low number old rest never (inl (word, none, is)) high =
    let first : BeginsHigh (map number (word ∷ rest)) = subst (λ xs. BeginsHigh (map number xs)) is high in
    omega (arith, none, first)
refused_low number old rest never (inr (taken, e, is)) high = never e
