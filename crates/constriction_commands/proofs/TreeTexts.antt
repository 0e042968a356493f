-- Codewords of a tree's symbols on a line, one more at a time; weights of 64 bits are their own numbers.
use Rattle.std.proofs.Common.{◌≡◌, ℕ, zero, suc, ◌+◌, ◌%◌, ◌^◌, List, [], ◌∷◌, ◌++◌, map, sum, sum_by, get_or, Bool, Option, Fits, w64, refl, ap, ap₂, ◌∙◌, arith}
use Rattle.std.proofs.lemmas.List.{map-append}
use Rattle.std.specs.List.{join_with_byte}
use Rattle.constriction_symbol.specs.Huffman.{symbols_from}
use Rattle.constriction_commands.specs.commands.Huffman.{codeword_text, codewords_line}
use Rattle.constriction_base.proofs.WordLists.{own_remainders, sum_of_remainders}

-- one symbol more
symbols_more : (from n : ℕ) → symbols_from from (suc n) ≡ symbols_from from n ++ (from + n) ∷ []
symbols_more from zero = ap (λ (s : ℕ). s ∷ []) (omega arith)
symbols_more from (suc n) = ap (λ (rest : List ℕ). from ∷ rest) (symbols_more (from + 1) n ∙ ap (λ (s : ℕ). symbols_from (from + 1) n ++ s ∷ []) (omega arith))

-- the text of one symbol more
pub texts_more : (text : ℕ → List ℕ) (n : ℕ) → map text (symbols_from 0 (n + 1)) ≡ map text (symbols_from 0 n) ++ text n ∷ []
texts_more text n =
    let next : n + 1 ≡ suc n = omega arith in
    let same : 0 + n ≡ n = omega arith in
    ap (λ (k : ℕ). map text (symbols_from 0 k)) next
    ∙ ap (map text) (symbols_more 0 n ∙ ap (λ (s : ℕ). symbols_from 0 n ++ s ∷ []) same)
    ∙ map-append text (symbols_from 0 n) (n ∷ [])

-- the numbers of weights that were lent, and their sum
pub own_weights : (lent weights : List ℕ) → lent ≡ weights → ((i : ℕ) → Fits w64 (get_or weights i 0)) → map (λ x. x % 2 ^ 64) lent ≡ weights
own_weights lent weights is fits = ap (map (λ x. x % 2 ^ 64)) is ∙ own_remainders 64 weights (λ i. omega (arith, fits i))

pub own_total : (lent weights : List ℕ) → lent ≡ weights → ((i : ℕ) → Fits w64 (get_or weights i 0)) → sum_by (λ x. x % 2 ^ 64) lent ≡ sum weights
own_total lent weights is fits = ap (sum_by (λ x. x % 2 ^ 64)) is ∙ sum_of_remainders 64 weights (λ i. omega (arith, fits i))

-- the line of codewords that are the same, of as many symbols
same_texts : (f g : ℕ → Option (List Bool)) → ((s : ℕ) → f s ≡ g s) → (symbols : List ℕ) → map (λ s. codeword_text (f s)) symbols ≡ map (λ s. codeword_text (g s)) symbols
same_texts f g same [] = refl
same_texts f g same (s ∷ symbols) = ap₂ (λ (text : List ℕ) (texts : List (List ℕ)). text ∷ texts) (ap codeword_text (same s)) (same_texts f g same symbols)

pub same_line : (n m : ℕ) (f g : ℕ → Option (List Bool)) → n ≡ m → ((s : ℕ) → f s ≡ g s) → codewords_line n f ≡ codewords_line m g
same_line n m f g counts same =
    ap (λ (k : ℕ). codewords_line k f) counts ∙ ap (λ (texts : List (List ℕ)). join_with_byte 32 texts ++ 10 ∷ []) (same_texts f g same (symbols_from 0 m))
