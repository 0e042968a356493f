-- Bits that are taken off at once, as reads one after another would give them.
use Rattle.std.proofs.Common.{◌≡◌, ℕ, Bool, List, [], ◌∷◌, ◌++◌, reverse, map, Option, Result, ap, sym, refl, inl, ◌∙◌, append-nil, append_assoc, subst}
use Rattle.std.proofs.lemmas.List.{reverse-append}
use Rattle.constriction_symbol.specs.Bits.{BitsValue, PopsBit, BitRead, bits_above, bits_behind, bits_of_words}
use Rattle.constriction_symbol.specs.Codewords.{YieldsBits}
use Rattle.constriction_symbol.proofs.Coding.{bit_off}

module _ {W B E : Type 0} (w : ℕ) (number : W → ℕ) (is_list : Type 0) (reads : B → Result (Option W) E → B → Type 0) (words : B → List W) (backend : B) where
  -- a queue of bits, and a stack of bits, over this backend
  abbrev pub queue_of : List Bool → BitsValue B
  queue_of last = record { bits = bits_behind w number last (words backend); last = last; backend = backend }

  abbrev pub stack_of : List Bool → BitsValue B
  stack_of last = record { bits = bits_above w number (words backend) last; last = last; backend = backend }

  queue_gives : (bits rest : List Bool) → YieldsBits (BitRead w number is_list reads) (queue_of (bits ++ rest)) bits (queue_of rest)
  queue_gives [] rest = refl
  queue_gives (b ∷ bits) rest = (queue_of (bits ++ rest), (inl (refl, refl), λ known. refl), queue_gives bits rest)

  pub first_given : (bits last rest other : List Bool) → last ≡ bits ++ rest → other ≡ rest → YieldsBits (BitRead w number is_list reads) (queue_of last) bits (queue_of other)
  first_given bits last rest other is same =
      subst (λ xs. YieldsBits (BitRead w number is_list reads) (queue_of xs) bits (queue_of other)) (sym is)
      (subst (λ xs. YieldsBits (BitRead w number is_list reads) (queue_of (bits ++ rest)) bits (queue_of xs)) (sym same) (queue_gives bits rest))

  stack_gives : (bits rest last : List Bool) → last ≡ rest ++ reverse bits → YieldsBits (PopsBit w number is_list reads) (stack_of last) bits (stack_of rest)
  stack_gives [] rest last is = ap stack_of (is ∙ append-nil rest)
  stack_gives (b ∷ bits) rest last is =
      let next : last ≡ (rest ++ reverse bits) ++ b ∷ [] =
      is ∙ (ap (λ xs. rest ++ xs) (reverse-append (b ∷ []) bits) ∙ sym (append_assoc rest (reverse bits) (b ∷ []))) in
      (stack_of (rest ++ reverse bits), (inl (next, refl), λ known. bit_off (bits_of_words w (map number (reverse (words backend)))) last (rest ++ reverse bits) b next), stack_gives bits rest (rest ++ reverse bits) refl)

  pub last_given : (bits last rest other : List Bool) → last ≡ rest ++ reverse bits → other ≡ rest → YieldsBits (PopsBit w number is_list reads) (stack_of last) bits (stack_of other)
  last_given bits last rest other is same =
      subst (λ xs. YieldsBits (PopsBit w number is_list reads) (stack_of last) bits (stack_of xs)) (sym same) (stack_gives bits rest last is)
