-- The weights that make a Huffman tree, the errors for other weights, and the pairs that merging joins.
use Rattle.std.specs.Prelude.{◌≡◌, ℕ, ◌<◌, ◌≤◌, ◌^◌, ◌⊎◌, List, [], ◌++◌, get_or, length, map, sum_by, Option, Some, Result, Ok, Err}
use Rattle.std.specs.Iterator.{Drains, YieldsThen}
use Rattle.constriction_symbol.specs.Huffman.{IsHuffman, IsMerged, Tree, book_of}
use Rattle.constriction_symbol.specs.declared.huffman.error.HuffmanError.{HuffmanError}
use Rattle.constriction_symbol.specs.declared.huffman.weighed.Weighed.{Weighed}
use Rattle.constriction_symbol.specs.declared.huffman.error.HuffmanError.TheVariants.{Empty, TooManySymbols, WeightOverflow, Iterator, Memory}

abbrev pub as_weight : {P E : Type 0} → P → Result P E
as_weight weight = Ok weight

-- The iterator of `Result`s gives these weights, and ends.
abbrev pub YieldsWeights : {I P E : Type 0} → (I → Type 0) → (I → Option (Result P E) → I → Type 0) → List P → Type 0
YieldsWeights {I} {E = E} gives next weights =
    (iterator : I) × gives iterator × Drains next iterator (map (as_weight {E = E}) weights)

-- The iterator gives some weights, and then this item.
abbrev pub YieldsBefore : {I P E : Type 0} → (I → Type 0) → (I → Option (Result P E) → I → Type 0) → Result P E → Type 0
YieldsBefore {I} {P} {E} gives next item =
    (iterator : I) × gives iterator × (weights : List P) × (rest : I)
    × YieldsThen next iterator (map (as_weight {E = E}) weights) (Some item) rest

-- The weights aren't all collected: an item is an error, or there is no memory for one more weight.
abbrev pub StopsGiving : {I P E : Type 0} → (I → Type 0) → (I → Option (Result P E) → I → Type 0)
    → HuffmanError E → Type 0
StopsGiving gives next (Iterator e) = YieldsBefore gives next (Err e)
StopsGiving {P = P} gives next Memory = (weight : P) × YieldsBefore gives next (Ok weight)
StopsGiving gives next Empty = ⊥
StopsGiving gives next TooManySymbols = ⊥
StopsGiving gives next WeightOverflow = ⊥

-- The iterator lends these weights, and ends.
abbrev pub LendsWeights : {I P L : Type 0} → (I → Type 0) → (I → Option L → I → Type 0) → (L → P) → List P → Type 0
LendsWeights {I} {L = L} gives next lent weights =
    (iterator : I) × gives iterator × (items : List L) × Drains next iterator items × (weights ≡ map lent items)

-- The iterator gives some items, and then one more.
abbrev pub StopsLending : {I L : Type 0} → (I → Type 0) → (I → Option L → I → Type 0) → Type 0
StopsLending {I} {L} gives next =
    (iterator : I) × gives iterator × (items : List L) × (item : L) × (rest : I)
    × YieldsThen next iterator items (Some item) rest

-- A tree can be made of the weights: there are between 1 and `most`, and their sum fits the given number of bits.
pub record FitTree {P : Type 0} (number : P → ℕ) (bits most : ℕ) (weights : List P) : Type 0 where
  pub some : 0 < length weights
  pub few : length weights ≤ most
  pub fits : sum_by number weights < 2 ^ bits

-- The weights give this error. Each error excludes the conditions of the errors before it.
abbrev pub MakeNoTree : {P E : Type 0} → (P → ℕ) → ℕ → ℕ → List P → HuffmanError E → Type 0
MakeNoTree number bits most weights Empty = weights ≡ []
MakeNoTree number bits most weights TooManySymbols = (0 < length weights) × (most < length weights)
MakeNoTree number bits most weights WeightOverflow =
    (0 < length weights) × (length weights ≤ most) × (2 ^ bits ≤ sum_by number weights)
MakeNoTree number bits most weights (Iterator e) = ⊥
MakeNoTree number bits most weights Memory = FitTree number bits most weights

-- Collecting the weights of an iterator of `Result`s stops with this error, or the collected weights give it.
abbrev pub RefusesGiven : {I P E : Type 0} → (I → Type 0) → (I → Option (Result P E) → I → Type 0) → (P → ℕ) → ℕ → ℕ
    → HuffmanError E → Type 0
RefusesGiven {P = P} gives next number bits most e =
    StopsGiving gives next e
    ⊎ ((weights : List P) × YieldsWeights gives next weights × MakeNoTree number bits most weights e)

-- The weights make this tree: the Huffman tree of their numbers.
abbrev pub MakesTree : {P : Type 0} → (P → ℕ) → ℕ → ℕ → List P → Tree → Type 0
MakesTree number bits most weights tree =
    FitTree number bits most weights × IsHuffman (map number weights) (book_of tree)

-- The weights of an iterator of `Result`s make this tree.
abbrev pub MakesGiven : {I P E : Type 0} → (I → Type 0) → (I → Option (Result P E) → I → Type 0)
    → (P → ℕ) → ℕ → ℕ → Tree → Type 0
MakesGiven {P = P} gives next number bits most tree =
    (weights : List P) × YieldsWeights gives next weights × MakesTree number bits most weights tree

-- The weights that an iterator lends make this tree.
abbrev pub MakesLent : {I P L : Type 0} → (I → Type 0) → (I → Option L → I → Type 0) → (L → P)
    → (P → ℕ) → ℕ → ℕ → Tree → Type 0
MakesLent {P = P} gives next lent number bits most tree =
    (weights : List P) × LendsWeights gives next lent weights × MakesTree number bits most weights tree

-- The weights that an iterator lends give this error, or there is no memory for one more of them.
abbrev pub RefusesLent : {I P L E : Type 0} → (I → Type 0) → (I → Option L → I → Type 0) → (L → P) → (P → ℕ) → ℕ → ℕ
    → HuffmanError E → Type 0
RefusesLent {P = P} gives next lent number bits most e =
    ((e ≡ Memory) × StopsLending gives next)
    ⊎ ((weights : List P) × LendsWeights gives next lent weights × MakeNoTree number bits most weights e)

-- The two indices of a pair.
abbrev pub as_pair : List ℕ → ℕ × ℕ
as_pair indices = (get_or indices 0 0, get_or indices 1 0)

-- Merging these weights joins these pairs of indices, in order.
abbrev pub ArePairs : List ℕ → List (List ℕ) → Type 0
ArePairs weights pairs = (tree : Tree) × IsMerged weights (map as_pair pairs) tree

-- The weight and the index of a tree, and (below) of each tree of a list.
abbrev pub key_of : {P Z : Type 0} → (P → ℕ) → Weighed P Z → ℕ × ℕ
key_of number item = (number item.weight, item.index)

abbrev pub keys_of : {P Z : Type 0} → (P → ℕ) → List (Weighed P Z) → List (ℕ × ℕ)
keys_of number items = map (key_of number) items

-- The weights and indices of the trees of two queues.
abbrev pub all_keys : {P Z : Type 0} → (P → ℕ) → List (Weighed P Z) → List (Weighed P Z) → List (ℕ × ℕ)
all_keys number leaves unions = keys_of number leaves ++ keys_of number unions
