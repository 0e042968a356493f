-- The bits of a word that are stored in reverse order.
use Rattle.std.proofs.Common.{◌≡◌, ◌/◌, ◌-◌, ◌^◌, ℕ, Bool, List, [], ◌∷◌, ◌++◌, length, reverse, sym, ap, ◌∙◌}
use Rattle.std.proofs.lemmas.List.{length-reverse, reverse-reverse}
use Rattle.constriction_symbol.specs.Bits.{bits_of, top_bits}
use Rattle.constriction_symbol.proofs.ReversedCodewords.{first_reversed}

-- a word in reverse order, of which the last bit is popped
pub first_popped : (b n t : ℕ) (all new : List Bool) (bit : Bool) → bits_of b t ≡ reverse (bits_of b n) → all ≡ bits_of b t → all ≡ new ++ bit ∷ [] → bits_of b n ≡ bit ∷ reverse new
first_popped b n t all new bit is whole popped =
    sym (reverse-reverse (bits_of b n)) ∙ (ap reverse (sym (whole ∙ is)) ∙ first_reversed all new bit popped)

-- the bits at the top of a word
pub top_reversed : (b n : ℕ) (all : List Bool) → bits_of (length all) (n / 2 ^ (b - length all)) ≡ all → top_bits b (length (reverse all)) n ≡ reverse all
top_reversed b n all top = ap (λ k. top_bits b k n) (length-reverse all) ∙ ap reverse top
