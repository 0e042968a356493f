-- Steps of a coder (a precision and the interval of one symbol), and the allowed sizes of words and states. A step is
-- all that a coder learns of a symbol and its model. Under a lawful model, each step is an entry of the table.
use Rattle.std.specs.Prelude.{◌≡◌, ℕ, ◌+◌, ◌*◌, ◌%◌, ◌<◌, ◌≤◌, ◌^◌, List, [], ◌∷◌}
use Rattle.std.specs.List.{AllByRecursion}

-- The interval of length p that begins at left, among the numbers below 2 ^ precision.
pub record Step : Type 0 where
  pub precision : ℕ
  pub left : ℕ
  pub p : ℕ

-- A step of a table at words of w bits. The precision is from 1 to w bits. The interval is not empty and lies within
-- the numbers below 2 ^ precision.
pub record IsStep (w : ℕ) (e : Step) : Type 0 where
  pub some_bits : 1 ≤ e.precision
  pub within_word : e.precision ≤ w
  pub not_empty : 0 < e.p
  pub inside : e.left + e.p ≤ 2 ^ e.precision

-- A list of steps, each with a precision of its own.
abbrev pub AreSteps : ℕ → List Step → Type 0
AreSteps w es = AllByRecursion (IsStep w) es

-- Steps of any kind, taken one after another, lead from the old state to the new one.
abbrev pub Trace : {E S : Type 0} → (E → S → S → Type 0) → List E → S → S → Type 0
Trace leads [] old new = new ≡ old
Trace {E} {S} leads (e ∷ es) old new = (between : S) × leads e old between × Trace leads es between new

-- Sizes that a coder can have: a state of s bits is a whole number of words of w bits, and at least two.
pub record IsSizes (w s : ℕ) : Type 0 where
  pub some_bits : 1 ≤ w
  pub two_words : 2 * w ≤ s
  pub whole : s % w ≡ 0

-- Each number fits a word of w bits.
abbrev pub AreWords : ℕ → List ℕ → Type 0
AreWords w ws = AllByRecursion (λ x. x < 2 ^ w) ws
