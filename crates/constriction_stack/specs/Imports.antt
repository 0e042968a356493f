-- The possible results of a stack coder's imports, in terms of the backend's reads or of its words.
use Rattle.std.specs.Prelude.{◌≡◌, ℕ, ◌-◌, ◌<◌, ◌≤◌, ◌^◌, ◌⊎◌, List, ◌∷◌, ◌++◌, Option, None, Some, Result, Ok, Err}
use Rattle.constriction_base.specs.Readings.{Imports}

-- An import that succeeds: the coder reads words until the head is full or no word is left.
abbrev pub FilledBy : {W E B : Type 0} → (W → ℕ) → (B → Result (Option W) E → B → Type 0) → ℕ → ℕ → B → ℕ → B → Type 0
FilledBy {W} {E} {B} number reads w s old head new =
    (last : B) × Imports number reads w old head last
    × (((2 ^ (s - w) ≤ head) × (new ≡ last)) ⊎ ((head < 2 ^ (s - w)) × reads last (Ok None) new))

-- An import that fails. Either the first read returns a zero word, or reads return words that don't fill the head and
-- the next read returns an error.
abbrev pub ImportRefused : {W E B : Type 0} → (W → ℕ) → (B → Result (Option W) E → B → Type 0) → ℕ → ℕ → B → B → Type 0
ImportRefused {W} {E} {B} number reads w s old rest =
    ((word : W) × (number word ≡ 0) × reads old (Ok (Some word)) rest)
    ⊎ ((head : ℕ) × (last : B) × (e : E) × Imports number reads w old head last × (head < 2 ^ (s - w)) × reads last (Err e) rest)

-- An import that fails, over a backend for which `is_list` holds. Either the import takes only a zero word, or it takes
-- the words `taken` before a read returns an error.
abbrev pub ListRefused : {W : Type 0} → (E : Type 0) → (W → ℕ) → List W → List W → Type 0
ListRefused {W} E number old rest =
    ((word : W) × (number word ≡ 0) × (old ≡ word ∷ rest))
    ⊎ ((taken : List W) × E × (old ≡ taken ++ rest))
