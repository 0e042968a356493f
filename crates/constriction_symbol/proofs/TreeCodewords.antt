-- Codewords of Huffman trees; lists of codewords by two codebooks that have the same ones, and lists whose items are equal.
use Rattle.std.proofs.Common.{◌≡◌, ◌<◌, ◌≤◌, ℕ, Bool, List, [], ◌∷◌, Option, Some, None, length, ap, ap₂, refl, sym, ◌∙◌, arith}
use Rattle.constriction_symbol.specs.Huffman.{huffman}
use Rattle.constriction_symbol.proofs.HuffmanMerge.{huffman_path, merge_one, merge_path_none, merge_path_some}
use Rattle.constriction_symbol.specs.Lists.{AreCodewords, AreEach}

-- the codewords of a list by the one codebook are those by the other
pub same_codewords : {A : Type 0} (f g : A → Option (List Bool)) → ((x : A) → f x ≡ g x) → (xs : List A) (bits : List Bool) → AreCodewords f xs bits → AreCodewords g xs bits
same_codewords f g same [] bits h = h
same_codewords f g same (x ∷ xs) bits h = (h.0, h.1, sym (same x) ∙ h.2, h.3, same_codewords f g same xs h.1 h.4)

-- items each of which is the one at its place
pub each_is : {A : Type 0} (xs ys : List A) → AreEach (λ x y. x ≡ y) xs ys → xs ≡ ys
each_is [] [] h = refl
each_is [] (y ∷ ys) h = absurd h
each_is (x ∷ xs) [] h = absurd h
each_is (x ∷ xs) (y ∷ ys) h = ap₂ (λ z zs. z ∷ zs) h.0 (each_is xs ys h.1)

-- a symbol that has a weight has a codeword
pub known_symbol : (weights : List ℕ) (s : ℕ) → s < length weights → (bits : List Bool) × (huffman weights s ≡ Some bits)
known_symbol weights s within =
    let one = merge_one weights (omega (arith, within)) in
    let found = merge_path_some weights one.0 s one.1 within in
    (found.0, huffman_path weights one.0 s one.1 ∙ found.1)

-- and no other symbol has
pub unknown_symbol : (weights : List ℕ) (s : ℕ) → length weights ≤ s → huffman weights s ≡ None
unknown_symbol [] s past = refl
unknown_symbol (weight ∷ weights) s past =
    let one = merge_one (weight ∷ weights) (omega arith) in
    huffman_path (weight ∷ weights) one.0 s one.1 ∙ merge_path_none (weight ∷ weights) one.0 s one.1 past

-- the codewords of two trees of the same weights
pub same_trees : {first second : List ℕ} {f g : ℕ → Option (List Bool)} → first ≡ second → ((s : ℕ) → f s ≡ huffman first s) → ((s : ℕ) → g s ≡ huffman second s) → (s : ℕ) → f s ≡ g s
same_trees {first} {second} {f} {g} is of_first of_second s = of_first s ∙ (ap (λ (weights : List ℕ). huffman weights s) is ∙ sym (of_second s))
