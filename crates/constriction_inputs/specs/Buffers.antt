-- A caller's buffer, whose first words are in use.
use Rattle.std.specs.Prelude.{◌≡◌, ℕ, ◌+◌, List, ◌++◌, length, take, drop, map, reverse}

-- A buffer, and the number of its words that are in use.
pub record WordBuffer (Word : Type 0) : Type 0 where
  pub words : List Word
  pub len : ℕ

-- The new buffer has the added words after its first `len` words. All other words are unchanged.
pub record Appended {W : Type 0} (old : List W) (len : ℕ) (added : List W) (new : List W) (new_len : ℕ) : Type 0 where
  pub count : new_len ≡ len + length added
  pub words : take new_len new ≡ take len old ++ added
  pub behind : drop new_len new ≡ drop new_len old

-- The words in use as a stack, with the last word on top.
abbrev pub stack_in : {W : Type 0} → (W → ℕ) → List W → ℕ → List ℕ
stack_in number buffer len = map number (reverse (take len buffer))
