-- Lists of symbols as concatenated codewords, and the decoding of such lists.
use Rattle.std.specs.Prelude.{◌≡◌, Bool, List, [], ◌∷◌, ◌++◌, Option, Some, Result, Ok, ⊤}
use Rattle.std.specs.List.{zip}
use Rattle.constriction_base.specs.Steps.{Trace}
use Rattle.constriction_symbol.specs.Codewords.{ReadsSymbol}

-- Each item has a codeword, and the bits are these codewords, concatenated.
abbrev pub AreCodewords : {A : Type 0} → (A → Option (List Bool)) → List A → List Bool → Type 0
AreCodewords codeword [] bits = bits ≡ []
AreCodewords codeword (item ∷ items) bits =
    (first : List Bool) × (rest : List Bool) × (codeword item ≡ Some first) × (bits ≡ first ++ rest)
    × AreCodewords codeword items rest

-- The codeword of a pair's symbol in the pair's codebook.
abbrev pub of_pair : {K S : Type 0} → (K → S → Option (List Bool)) → S × K → Option (List Bool)
of_pair codeword pair = codeword pair.1 pair.0

-- The bits are the codewords of the symbols, each by its own codebook, concatenated.
abbrev pub AreCodewordsBy : {K S : Type 0} → (K → S → Option (List Bool)) → List K → List S → List Bool → Type 0
AreCodewordsBy codeword codebooks symbols bits = AreCodewords (of_pair codeword) (zip symbols codebooks) bits

-- The lists have equal lengths, and the relation holds between the items at each place.
abbrev pub AreEach : {A B : Type 0} → (A → B → Type 0) → List A → List B → Type 0
AreEach holds [] [] = ⊤
AreEach holds [] (y ∷ ys) = ⊥
AreEach holds (x ∷ xs) [] = ⊥
AreEach holds (x ∷ xs) (y ∷ ys) = holds x y × AreEach holds xs ys

-- The symbols are decoded with one codebook, one after another.
abbrev pub ReadsAll : {I S V E : Type 0} → (I → Option (Result Bool E) → I → Type 0) → (S → Option (List Bool))
    → (List Bool → Type 0) → (List Bool → V → Type 0) → List S → I → I → Type 0
ReadsAll {E = E} next codeword reads_on is_invalid =
    Trace (λ symbol old new. ReadsSymbol {E = E} next codeword reads_on is_invalid old (Ok symbol) new)

-- The symbols are decoded one after another, each with the codebook beside it.
abbrev pub ReadsPairs : {I K S V E : Type 0} → (I → Option (Result Bool E) → I → Type 0) → (K → S → Option (List Bool))
    → (K → List Bool → Type 0) → (K → List Bool → V → Type 0) → List (S × K) → I → I → Type 0
ReadsPairs {E = E} next codeword reads_on is_invalid =
    Trace (λ pair old new. ReadsSymbol {E = E} next (codeword pair.1) (reads_on pair.1) (is_invalid pair.1) old (Ok pair.0) new)

-- The symbols of two pairs mean the same in the second pair's codebook.
abbrev pub IsSamePair : {K S : Type 0} → (K → S → S → Type 0) → S × K → S × K → Type 0
IsSamePair same found pair = same pair.1 found.0 pair.0

-- The symbols at the same place of both lists mean the same in the codebook at this place.
abbrev pub AreSameBy : {K S : Type 0} → (K → S → S → Type 0) → List K → List S → List S → Type 0
AreSameBy same codebooks found symbols = AreEach (IsSamePair same) (zip found codebooks) (zip symbols codebooks)
