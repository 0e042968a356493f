-- The words that a guard writes onto a bit coder's vector and removes again.
use Rattle.std.specs.Prelude.{◌≡◌, ◌-◌, ◌<◌, ◌≤◌, ℕ, List, Bool, [], Vec, drop, length, reverse, vec_capacity, vec_len}
use Rattle.constriction_symbol.specs.Bits.{BitsValue, bits_above}

-- The bits of a coder without the last `count` words of its vector.
abbrev pub bits_without : {W A : Type 0} → ℕ → (W → ℕ) → ℕ → BitsValue (Vec W A) → List Bool
bits_without w number count coder = bits_above w number (drop count (reverse coder.backend.items)) coder.last

-- The coder's bits, and its bits outside the backend, are unchanged.
abbrev pub SameBits : {B : Type 0} → BitsValue B → BitsValue B → Type 0
SameBits old new = (new.bits ≡ old.bits) × (new.last ≡ old.last)

-- The number of words that a vector takes without new memory.
abbrev pub spare_words : {W A : Type 0} → Vec W A → ℕ
spare_words words = vec_capacity words - vec_len words

-- The vector has no room for the words that end a stack: two if the last word is full, else one.
abbrev pub LacksEnd : {W A : Type 0} → ℕ → BitsValue (Vec W A) → Type 0
LacksEnd w coder = (spare_words coder.backend < 2) × ((length coder.last ≡ w → ⊥) → spare_words coder.backend ≡ 0)

-- The last word of a queue has bits, and the vector has no room for this word.
abbrev pub LacksRest : {W A : Type 0} → BitsValue (Vec W A) → Type 0
LacksRest coder = (coder.last ≡ [] → ⊥) × (vec_capacity coder.backend ≤ vec_len coder.backend)
