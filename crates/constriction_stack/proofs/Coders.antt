-- What is true of every coder, and what its value is.
use Rattle.std.proofs.Common.{ℕ, ◌<◌, ◌≤◌, ◌^◌, refl, inl, inr}
use Rattle.std.proofs.lemmas.Bool.{cases_lt}
use Rattle.constriction_base.specs.Steps.{IsSizes}
use Rattle.constriction_base.specs.declared.backends.reading.Holds as holding
use Rattle.constriction_stack.specs.Ans.{IsCoder, value_of}

-- the value that a head and a backend make
pub is_coder : {W B S : Type 0} (number : W → ℕ) (holds : holding.Ghosts B W S) (w s head : ℕ) (backend : B) → IsSizes w s → head < 2 ^ s → IsCoder number holds w s (value_of number holds head backend)
is_coder number holds w s head backend sizes fits = record { sizes = sizes; head_fits = fits; words_are = refl }

-- what a test that failed says
pub not_less : (x p : ℕ) → (x < p → ⊥) → p ≤ x
not_less x p high = elim (cases_lt x p) [ inl less ↦ absurd (high less) | inr more ↦ more ]
