-- The tree's codewords beside those of any codebook, whatever its symbols are.
use Rattle.std.proofs.Common.{Option, suc, zero, ◌≡◌, ◌+◌, ◌≤◌, ℕ, Bool, List, [], ◌∷◌, ap, sym, subst, refl, ◌∙◌, arith, inl, inr, length, ◌++◌, ◌<◌, get_or, Some}
use Rattle.std.proofs.lemmas.Bool.{cases_order}
use Rattle.constriction_symbol.specs.Huffman.{huffman, symbols_from}
use Rattle.constriction_laws.specs.symbol.Cost.{AreApart, AreCodewordsOf, AreLawful, Costs, HaveCodewords, cost}
use Rattle.constriction_symbol.specs.Lists.{AreEach}
use Rattle.constriction_laws.proofs.of_symbol.least_cost.Least.{least, own_codewords}

-- what holds of the items at each place
each_at : {A B : Type 0} (R : A → B → Type 0) (xs : List A) (ys : List B) (d : A) (e : B) → AreEach R xs ys → (k : ℕ) → k < length ys → R (get_or xs k d) (get_or ys k e)
each_at R [] [] d e all k inside = absurd (omega (arith, inside))
each_at R [] (y ∷ ys) d e all k inside = absurd all
each_at R (x ∷ xs) [] d e all k inside = absurd all
each_at R (x ∷ xs) (y ∷ ys) d e all zero inside = all.0
each_at R (x ∷ xs) (y ∷ ys) d e all (suc k) inside = each_at R xs ys d e all.1 k (omega (arith, inside))

length_each : {A B : Type 0} (R : A → B → Type 0) (xs : List A) (ys : List B) → AreEach R xs ys → length xs ≡ length ys
length_each R [] [] all = refl
length_each R [] (y ∷ ys) all = absurd all
length_each R (x ∷ xs) [] all = absurd all
length_each R (x ∷ xs) (y ∷ ys) all = ap suc (length_each R xs ys all.1)

-- codewords of a codebook, of symbols of which no two mean the same, are lawful
lawful_of_apart : {S : Type 0} (codeword : S → Option (List Bool)) (same : S → S → Type 0)
    → ((s t : S) (bits tail : List Bool) → codeword s ≡ Some bits → codeword t ≡ Some (bits ++ tail) → same s t)
    → (symbols : List S) (codewords : List (List Bool)) → AreApart same symbols → HaveCodewords codeword symbols codewords → AreLawful codewords
lawful_of_apart codeword same prefix [] [] apart have s t tail low lower is = absurd (omega (arith, low))
lawful_of_apart codeword same prefix [] (bits ∷ codewords) apart have s t tail low lower is = absurd have
lawful_of_apart {S} codeword same prefix (d ∷ rest) codewords apart have s t tail low lower is =
    let symbols = d ∷ rest in
    let R : S → List Bool → Type 0 = λ symbol bits. codeword symbol ≡ Some bits in
    let count = length_each R symbols codewords have in
    let first = each_at R symbols codewords d [] have s low in
    let second = each_at R symbols codewords d [] have t lower ∙ ap Some is in
    let equal = prefix (get_or symbols s d) (get_or symbols t d) (get_or codewords s []) tail first second in
    elim (cases_order s t) [
      | inl is_same ↦ is_same
      | inr (inl before) ↦ absurd ((apart s t d before (omega (arith, lower, count))).0 equal)
      | inr (inr behind) ↦ absurd ((apart t s d behind (omega (arith, low, count))).1 equal)
    ]

-- the codewords of the symbols from one on, in order
have_from : (codeword : ℕ → Option (List Bool)) (from : ℕ) (codewords : List (List Bool)) → ((s : ℕ) → s < length codewords → codeword (from + s) ≡ Some (get_or codewords s []))
    → HaveCodewords codeword (symbols_from from (length codewords)) codewords
have_from codeword from [] of = tt
have_from codeword from (bits ∷ codewords) of =
    (ap codeword (same from) ∙ of 0 (omega arith), have_from codeword (from + 1) codewords (λ s within. ap codeword (next from s) ∙ of (suc s) (omega (arith, within))))
  where
    same : (from : ℕ) → from ≡ from + 0
    same from = omega arith

    next : (from s : ℕ) → from + 1 + s ≡ from + suc s
    next from s = omega arith

-- and back
of_have : (codeword : ℕ → Option (List Bool)) (from n : ℕ) (codewords : List (List Bool)) → HaveCodewords codeword (symbols_from from n) codewords → (s : ℕ) → s < length codewords
    → codeword (from + s) ≡ Some (get_or codewords s [])
of_have codeword from zero [] have s within = absurd (omega (arith, within))
of_have codeword from zero (bits ∷ codewords) have s within = absurd have
of_have codeword from (suc n) [] have s within = absurd have
of_have codeword from (suc n) (bits ∷ codewords) have zero within = ap codeword (same from) ∙ have.0
  where
    same : (from : ℕ) → from + 0 ≡ from
    same from = omega arith
of_have codeword from (suc n) (bits ∷ codewords) have (suc s) within = ap codeword (next from s) ∙ of_have codeword (from + 1) n codewords have.1 s (omega (arith, within))
  where
    next : (from s : ℕ) → from + suc s ≡ from + 1 + s
    next from s = omega arith

-- the codewords of the tree cost something
pub tree_costs : (weights : List ℕ) (n : ℕ) → n ≡ length weights → (codeword : ℕ → Option (List Bool)) → ((s : ℕ) → codeword s ≡ huffman weights s) → (total : ℕ) × Costs codeword (symbols_from 0 n) weights total
tree_costs weights n count codeword is =
    let own = own_codewords weights in
    let have = have_from codeword 0 own.0 (λ s within. ap codeword (same s) ∙ (is s ∙ own.2 s within)) in
    let of : HaveCodewords codeword (symbols_from 0 n) own.0 = subst (λ k. HaveCodewords codeword (symbols_from 0 k) own.0) (own.1 ∙ sym count) have in
    (cost weights own.0, (own.0, own.1, of, refl))
  where
    same : (s : ℕ) → 0 + s ≡ s
    same s = omega arith

-- and at most what those of any codebook cost
pub least_of_books : (weights : List ℕ) (n : ℕ) (codeword : ℕ → Option (List Bool)) → ((s : ℕ) → codeword s ≡ huffman weights s)
    → {S : Type 0} (other : S → Option (List Bool)) (same : S → S → Type 0) → ((s t : S) (bits tail : List Bool) → other s ≡ Some bits → other t ≡ Some (bits ++ tail) → same s t)
    → (symbols : List S) (total others : ℕ) → Costs codeword (symbols_from 0 n) weights total → AreApart same symbols → Costs other symbols weights others → total ≤ others
least_of_books weights n codeword is other same prefix symbols total others own apart beside =
    let of : AreCodewordsOf (huffman weights) own.0 = λ s within. sym (is s) ∙ (ap codeword (none s) ∙ of_have codeword 0 n own.0 own.2 s within) in
    let lawful = lawful_of_apart other same prefix symbols beside.0 apart beside.2 in
    omega (arith, least weights own.0 beside.0 own.1 of beside.1 lawful, own.3, beside.3)
  where
    none : (s : ℕ) → s ≡ 0 + s
    none s = omega arith
