-- Worked values of the definitions, by computing alone: words of 8 bits, states of 16 and tables of 8, where no other sizes stand.
use Rattle.std.proofs.Common.{◌≡◌, ◌+◌, ◌*◌, ◌/◌, [], ◌∷◌, refl}
use Rattle.constriction_base.specs.Steps.{Step}
use Rattle.constriction_queue.specs.Range.{offset, run, scale, seal_number, sealed, initial}

-- the weights 127, 1, 127, 1
abbrev zeroth : Step
zeroth = record { precision = 8; left = 0; p = 127 }

abbrev first : Step
first = record { precision = 8; left = 127; p = 1 }

abbrev third : Step
third = record { precision = 8; left = 255; p = 1 }

-- no symbol
none : sealed 8 16 (initial 16) ≡ []
none = refl

-- a symbol whose interval reaches over the greatest state: its word is held back
inverted : run 8 16 (first ∷ []) (initial 16) ≡ record { low = 126 * 65536 + 33024; range = 65280; moves = 1 }
inverted = refl

inverted_sealed : sealed 8 16 (run 8 16 (first ∷ []) (initial 16)) ≡ 126 ∷ 129 ∷ []
inverted_sealed = refl

-- one that carries into it
carry : seal_number 8 16 (run 8 16 (first ∷ third ∷ []) (initial 16)) ≡ 8355585
carry = refl

carry_sealed : sealed 8 16 (run 8 16 (first ∷ third ∷ []) (initial 16)) ≡ 127 ∷ 127 ∷ 1 ∷ []
carry_sealed = refl

-- one that doesn't
no_carry_sealed : sealed 8 16 (run 8 16 (first ∷ zeroth ∷ []) (initial 16)) ≡ 126 ∷ 129 ∷ []
no_carry_sealed = refl

-- two held words, and a carry through both
two_held_sealed : sealed 8 16 (run 8 16 (first ∷ first ∷ third ∷ []) (initial 16)) ≡ 127 ∷ 0 ∷ 127 ∷ 1 ∷ []
two_held_sealed = refl

-- after a `clear`
cleared_sealed : sealed 8 16 (run 8 16 (zeroth ∷ []) (initial 16)) ≡ 0 ∷ []
cleared_sealed = refl

-- the one case of a zero word
zero_word_sealed : sealed 8 16 (run 8 16 (record { precision = 8; left = 0; p = 129 } ∷ record { precision = 8; left = 1; p = 2 } ∷ []) (initial 16)) ≡ 1 ∷ 0 ∷ []
zero_word_sealed = refl

wide_state_sealed : sealed 8 32 (record { low = 1; range = 16777216; moves = 0 }) ≡ 1 ∷ 0 ∷ []
wide_state_sealed = refl

-- words of 32 bits, states of 64 and tables of 24
one_symbol_sealed : sealed 32 64 (run 32 64 (record { precision = 24; left = 8388608; p = 8388608 } ∷ []) (initial 64)) ≡ 2147483648 ∷ []
one_symbol_sealed = refl

-- what a decoder reads behind the first symbol
read_distance : offset 8 16 (127 ∷ 127 ∷ 1 ∷ []) (run 8 16 (first ∷ []) (initial 16)) ≡ 65025
read_distance = refl

read_quantile : offset 8 16 (127 ∷ 127 ∷ 1 ∷ []) (run 8 16 (first ∷ []) (initial 16)) / scale third (run 8 16 (first ∷ []) (initial 16)) ≡ 255
read_quantile = refl
