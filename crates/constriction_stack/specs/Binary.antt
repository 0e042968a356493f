-- Binary forms of the stack coder's states: the words of the head's bits below its leading 1, and the words below the
-- head. The Rust crate's `AnsCoder::from_binary` and `into_binary` use this form.
use Rattle.std.specs.Prelude.{◌≡◌, ℕ, ◌-◌, ◌<◌, ◌≤◌, ◌^◌, ◌⊎◌, List, ◌++◌, Option, None, Result, Ok, Err, map}
use Rattle.std.specs.Int.Digits.{number_from_digits_after}
use Rattle.constriction_base.specs.Digits.{fixed_digits}
use Rattle.constriction_base.specs.Readings.{ReadsReturn}
use Rattle.constriction_stack.specs.Ans.{AnsState, filled}

-- The state that a list of words in binary form stands for. The head starts at 1, and words move into it while it is
-- below `2 ^ (s - w)`.
abbrev pub binary_state : ℕ → ℕ → List ℕ → AnsState
binary_state w s words = filled w s 1 words

-- The words of the binary form, top word first, of a state whose head has `m` words below its leading 1. These are the
-- `m` words of the head, and then the words below the head.
abbrev pub binary_words : ℕ → ℕ → AnsState → List ℕ
binary_words w m x = fixed_digits (2 ^ w) m x.head ++ x.words

-- Reads return the words `words`, and the head consists of a leading 1 and these words as digits.
pub record BinaryMovesIn {W E B : Type 0} (number : W → ℕ) (reads : B → Result (Option W) E → B → Type 0) (w : ℕ) (old : B) (head : ℕ) (new : B) : Type 0 where
  pub words : List W
  pub given : ReadsReturn reads old words new
  pub is : head ≡ number_from_digits_after (2 ^ w) 1 (map number words)

-- An import that succeeds: the coder reads words until the head is full or no word is left.
abbrev pub BinaryFilledBy : {W E B : Type 0} → (W → ℕ) → (B → Result (Option W) E → B → Type 0) → ℕ → ℕ → B → ℕ → B → Type 0
BinaryFilledBy {W} {E} {B} number reads w s old head new =
    (last : B) × BinaryMovesIn number reads w old head last
    × (((2 ^ (s - w) ≤ head) × (new ≡ last)) ⊎ ((head < 2 ^ (s - w)) × reads last (Ok None) new))

-- An import that fails: reads return words that don't fill the head, and the next read returns the error `e`.
abbrev pub BinaryRefused : {W E B : Type 0} → (W → ℕ) → (B → Result (Option W) E → B → Type 0) → ℕ → ℕ → B → E → Type 0
BinaryRefused {W} {E} {B} number reads w s old e =
    (rest : B) × (head : ℕ) × (last : B) × BinaryMovesIn number reads w old head last × (head < 2 ^ (s - w)) × reads last (Err e) rest
