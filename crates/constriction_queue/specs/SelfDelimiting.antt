-- The self-delimiting seal of a run: any words may follow it. A state may have any number of words from two on.
use Rattle.std.specs.Prelude.{◌≡◌, ℕ, suc, ◌+◌, ◌-◌, ◌*◌, ◌/◌, ◌<◌, ◌≤◌, ◌^◌, ◌⊎◌, List, ◌++◌, replicate}
use Rattle.constriction_base.specs.Digits.{fixed_digits}
use Rattle.constriction_queue.specs.Range.{Run, seal_number}

-- With `t` zero words after the digits of `seal_number`, all numbers that begin with these words lie in the interval.
abbrev pub AreEnough : ℕ → ℕ → Run → ℕ → Type 0
AreEnough w s r t = seal_number w s r * 2 ^ (s - w) + 2 ^ (s - w - t * w) ≤ r.low + r.range

-- The least `t` for which `AreEnough` holds. It is below `s / w`, the number of words of a state.
pub record AreLeast (w s : ℕ) (r : Run) (t : ℕ) : Type 0 where
  pub few : t < s / w
  pub enough : AreEnough w s r t
  pub least : (k : ℕ) → k < t → AreEnough w s r k → ⊥

-- The digits of `seal_number` in base `2 ^ w`, followed by `t` zero words.
abbrev pub sealed_with_zeros : ℕ → ℕ → Run → ℕ → List ℕ
sealed_with_zeros w s r t = fixed_digits (2 ^ w) (suc r.moves) (seal_number w s r) ++ replicate t 0

-- The words are a self-delimiting export of the run, so any words may follow them. If no symbol was coded, these are
-- the words moved out so far. Otherwise they are the digits of `seal_number`, followed by the least number of zero
-- words for which `AreEnough` holds.
abbrev pub SelfDelimits : ℕ → ℕ → Run → List ℕ → Type 0
SelfDelimits w s r words =
    ((r.range + 1 ≡ 2 ^ s) × (words ≡ fixed_digits (2 ^ w) r.moves (r.low / 2 ^ s)))
    ⊎ ((r.range + 1 < 2 ^ s) × ((t : ℕ) × AreLeast w s r t × (words ≡ sealed_with_zeros w s r t)))
