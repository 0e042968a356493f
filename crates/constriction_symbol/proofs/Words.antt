-- Words of a stack of bits are those of no other bits.
use Rattle.std.proofs.Common.{◌≡◌, ℕ, zero, suc, Bool, true, false, List, [], ◌∷◌, ◌++◌, ap, sym, refl, ◌∙◌, replicate, reverse}
use Rattle.std.proofs.lemmas.List.{reverse-append, reverse-reverse}
use Rattle.constriction_symbol.specs.Bits.{HasStackWords}
use Rattle.constriction_symbol.proofs.GolombLemmas.{reverse_zeros}

-- zeros and a one that begin the same bits are followed by the same
after_zeros : (j k : ℕ) (xs ys : List Bool) → replicate j false ++ true ∷ xs ≡ replicate k false ++ true ∷ ys → xs ≡ ys
after_zeros zero zero xs ys is = cc
after_zeros zero (suc k) xs ys is = absurd cc
after_zeros (suc j) zero xs ys is = absurd cc
after_zeros (suc j) (suc k) xs ys is = let rest : replicate j false ++ true ∷ xs ≡ replicate k false ++ true ∷ ys = cc in after_zeros j k xs ys rest

reversed : (bits : List Bool) (k : ℕ) → reverse (bits ++ true ∷ replicate k false) ≡ replicate k false ++ true ∷ reverse bits
reversed bits k =
    let end : reverse (true ∷ replicate k false) ≡ replicate k false ++ true ∷ [] = reverse-append (true ∷ []) (replicate k false) ∙ ap (λ bs. bs ++ true ∷ []) (reverse_zeros k) in
    reverse-append bits (true ∷ replicate k false) ∙ (ap (λ bs. bs ++ reverse bits) end ∙ joined (replicate k false) (reverse bits))
  where
    joined : (xs ys : List Bool) → (xs ++ true ∷ []) ++ ys ≡ xs ++ true ∷ ys
    joined [] ys = refl
    joined (x ∷ xs) ys = ap (λ zs. x ∷ zs) (joined xs ys)

pub one_stack : (w : ℕ) (words : List ℕ) (bits others : List Bool) → HasStackWords w bits words → HasStackWords w others words → bits ≡ others
one_stack w [] bits others first second = first ∙ sym second
one_stack w (v ∷ vs) bits others first second =
    let same : reverse bits ≡ reverse others =
    after_zeros first.zeros second.zeros (reverse bits) (reverse others)
    (sym (reversed bits first.zeros) ∙ (ap reverse (sym first.is ∙ second.is) ∙ reversed others second.zeros)) in
    sym (reverse-reverse bits) ∙ (ap reverse same ∙ reverse-reverse others)
