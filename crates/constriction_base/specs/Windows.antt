-- Windows (the numbers from a bound b to b * 2 ^ w - 1), and the moves of one word that keep a head in its window. A
-- word has w bits. The head is the number on top of a stack of words. The remainders head of the chain coder is an
-- example.
use Rattle.std.specs.Prelude.{◌≡◌, ℕ, ◌+◌, ◌*◌, ◌^◌, ◌<◌, ◌≤◌, List, ◌∷◌}

-- The number is at least the bound and below the bound times 2 ^ w.
pub record IsInWindow (w bound number : ℕ) : Type 0 where
  pub from : bound ≤ number
  pub below : number < bound * 2 ^ w

-- The next word moves in below the number.
pub record IsMovedIn (w number : ℕ) (words : List ℕ) (number' : ℕ) (words' : List ℕ) : Type 0 where
  pub word : ℕ
  pub fits : word < 2 ^ w
  pub taken : words ≡ word ∷ words'
  pub grown : number' ≡ number * 2 ^ w + word

-- The lowest word of the number moves out: the inverse of a move in.
abbrev pub IsMovedOut : ℕ → ℕ → List ℕ → ℕ → List ℕ → Type 0
IsMovedOut w number words number' words' = IsMovedIn w number' words' number words
