-- Stack coders side by side. Each coder is a head and a row of words. The first words of the row are in use, and the last
-- of these is the top word.
use Rattle.std.specs.Prelude.{◌≡◌, ℕ, ◌+◌, ◌-◌, ◌/◌, ◌^◌, ◌<◌, ◌≤◌, ◌⊎◌, List, map, reverse, take}
use Rattle.constriction_stack.specs.Ans.{AnsState}

-- The state of a coder with this head, whose words are the first `len` of `words`.
abbrev pub lane : {W V : Type 0} → (W → ℕ) → (V → ℕ) → V → List W → ℕ → AnsState
lane number state head words len = record { head = state head; words = map number (reverse (take len words)) }

-- A head and a number of words before a push. If the head has room for the step, both are unchanged. Otherwise the low
-- word of the head has moved to the words.
abbrev pub MakesRoom : ℕ → ℕ → ℕ → ℕ → ℕ → ℕ → ℕ → ℕ → Type 0
MakesRoom w s precision p head len base end =
    ((head / 2 ^ (s - precision) < p) × (base ≡ head) × (end ≡ len))
    ⊎ ((p ≤ head / 2 ^ (s - precision)) × (base ≡ head / 2 ^ w) × (end ≡ len + 1))
