-- The cost of codewords (the sum of weight times length), and prefix-free codebooks of least cost.
use Rattle.std.specs.Prelude.{◌≡◌, ℕ, ◌+◌, ◌*◌, ◌<◌, ◌≤◌, Bool, List, [], ◌∷◌, ◌++◌, length, map, get_or, Option, Some}
use Rattle.std.specs.Prelude.{AllPairs}
use Rattle.constriction_symbol.specs.Huffman.{symbols_from}
use Rattle.constriction_symbol.specs.Lists.{AreEach}

-- The sum of weight times length, with a codeword for each weight.
abbrev pub cost : List ℕ → List (List Bool) → ℕ
cost [] codewords = 0
cost (weight ∷ weights) [] = 0
cost (weight ∷ weights) (bits ∷ codewords) = weight * length bits + cost weights codewords

-- No codeword of the list begins another one.
abbrev pub AreLawful : List (List Bool) → Type 0
AreLawful codewords =
    (s t : ℕ) (tail : List Bool) → s < length codewords → t < length codewords
    → get_or codewords t [] ≡ get_or codewords s [] ++ tail → s ≡ t

-- The codewords are those of a codebook for the symbols from 0 on.
abbrev pub AreCodewordsOf : (ℕ → Option (List Bool)) → List (List Bool) → Type 0
AreCodewordsOf codeword codewords = (s : ℕ) → s < length codewords → codeword s ≡ Some (get_or codewords s [])

-- The codewords are those of the symbols, in order.
abbrev pub HaveCodewords : {S : Type 0} → (S → Option (List Bool)) → List S → List (List Bool) → Type 0
HaveCodewords codeword symbols codewords = AreEach (λ symbol bits. codeword symbol ≡ Some bits) symbols codewords

-- No two of the symbols mean the same.
abbrev pub AreApart : {S : Type 0} → (S → S → Type 0) → List S → Type 0
AreApart same symbols = AllPairs (λ s t. (same s t → ⊥) × (same t s → ⊥)) symbols

-- The codewords of the symbols, one for each weight, have this cost.
abbrev pub Costs : {S : Type 0} → (S → Option (List Bool)) → List S → List ℕ → ℕ → Type 0
Costs codeword symbols weights total =
    (codewords : List (List Bool)) × (length codewords ≡ length weights) × HaveCodewords codeword symbols codewords
    × (total ≡ cost weights codewords)

-- The codewords of the symbols from 0 on, one for each weight, have this cost.
abbrev pub CostsFromZero : {P : Type 0} → (P → ℕ) → (ℕ → Option (List Bool)) → List P → ℕ → Type 0
CostsFromZero number codeword weights total =
    Costs codeword (symbols_from 0 (length weights)) (map number weights) total

-- No codeword of the codebook begins another.
abbrev pub IsPrefixFree : {S : Type 0} → (S → Option (List Bool)) → Type 0
IsPrefixFree {S} codeword =
    (s t : S) (bits tail : List Bool) → codeword s ≡ Some bits → codeword t ≡ Some (bits ++ tail) → s ≡ t

-- Where the codewords are those of a codebook, one for each weight, this holds.
abbrev pub WithCodewords : List ℕ → (ℕ → Option (List Bool)) → List (List Bool) → Type 0 → Type 0
WithCodewords weights codeword codewords holds =
    length codewords ≡ length weights → AreCodewordsOf codeword codewords → holds

-- The codewords cost no more than others, one for each weight, of which none begins another.
abbrev pub CostsNoMore : List ℕ → List (List Bool) → List (List Bool) → Type 0
CostsNoMore weights codewords others =
    length others ≡ length weights → AreLawful others → cost weights codewords ≤ cost weights others

-- Codewords of this codebook, one for each weight, cost no more than others, of which none begins another.
abbrev pub IsLeastCost : List ℕ → (ℕ → Option (List Bool)) → List (List Bool) → List (List Bool) → Type 0
IsLeastCost weights codeword codewords others =
    WithCodewords weights codeword codewords (CostsNoMore weights codewords others)

-- The codewords from 0 on, one for each weight, cost no more than those of any symbols of another codebook, of which no
-- two mean the same.
abbrev pub IsNoDearer : {P S : Type 0} → (P → ℕ) → (ℕ → Option (List Bool)) → (S → Option (List Bool))
    → (S → S → Type 0) → List P → Type 0
IsNoDearer {S = S} number codeword other same weights = (symbols : List S) (cost others : ℕ)
    → CostsFromZero number codeword weights cost → AreApart same symbols
    → Costs other symbols (map number weights) others → cost ≤ others
