-- Huffman trees: the tree that merging the weights gives, its codewords, and its forms as lists of children or parents.
use Rattle.std.specs.Prelude.{◌≡◌, ℕ, zero, suc, ◌+◌, ◌-◌, ◌*◌, ◌/◌, ◌%◌, ◌<◌, ◌≤◌, ◌==◌, ◌&&◌, ◌||◌, ltb, Bool, true, false, List, [], ◌∷◌, ◌++◌, length, map, get_or, Option, Some, None, if◌then◌else◌, take, All, ◌⊎◌}

-- A tree of symbols. An inner node has two children, the lesser and the other.
pub data Tree : Type 0 where
  Leaf : ℕ → Tree
  Node : Tree → Tree → Tree

-- A tree in the merge, with its weight and its index.
pub record Weighed : Type 0 where
  pub weight : ℕ
  pub index : ℕ
  pub tree : Tree

-- The first tree comes before the second: by weight, then by index.
abbrev pub comes_before : Weighed → Weighed → Bool
comes_before x y = ltb x.weight y.weight || (x.weight == y.weight) && ltb x.index y.index

-- Inserts a tree into a sorted set.
abbrev pub put_in : Weighed → List Weighed → List Weighed
put_in x [] = x ∷ []
put_in x (y ∷ ys) = if comes_before x y then x ∷ y ∷ ys else y ∷ put_in x ys

-- The sorted leaves, one for each weight, with indices from `index` on.
abbrev pub leaves_from : ℕ → List ℕ → List Weighed
leaves_from index [] = []
leaves_from index (weight ∷ weights) =
    put_in (record { weight = weight; index = index; tree = Leaf index }) (leaves_from (index + 1) weights)

-- The union of two trees.
abbrev pub united : Weighed → Weighed → ℕ → Weighed
united x y index = record { weight = x.weight + y.weight; index = index; tree = Node x.tree y.tree }

-- The set after at most n joins. Each join replaces the first two trees of the sorted set by their union, with the next
-- index.
abbrev pub merged : ℕ → ℕ → List Weighed → List Weighed
merged zero next set = set
merged (suc n) next (x ∷ y ∷ set) = merged n (next + 1) (put_in (united x y next) set)
merged (suc n) next (x ∷ []) = x ∷ []
merged (suc n) next [] = []

-- The trees that are left after merging these weights: one tree if there is a weight, else none.
abbrev pub merge : List ℕ → List Tree
merge weights = map (λ x. x.tree) (merged (length weights) (length weights) (leaves_from 0 weights))

-- The codeword with `bit` in front, or `None` if there is no codeword.
abbrev pub prefixed : Bool → Option (List Bool) → Option (List Bool)
prefixed bit None = None
prefixed bit (Some bits) = Some (bit ∷ bits)

-- The first value if there is one, else the second.
abbrev pub or_else : {A : Type 0} → Option A → Option A → Option A
or_else (Some x) y = Some x
or_else None y = y

-- The path from the root to a symbol, if it is in the tree. Bit 0 leads to the lesser child, bit 1 to the other.
abbrev pub path : Tree → ℕ → Option (List Bool)
path (Leaf s) symbol = if s == symbol then Some [] else None
path (Node lesser other) symbol = or_else (prefixed false (path lesser symbol)) (prefixed true (path other symbol))

-- The codeword of a symbol in the tree of these weights.
abbrev pub huffman : List ℕ → ℕ → Option (List Bool)
huffman weights symbol = first_path (merge weights)
  where
    first_path : List Tree → Option (List Bool)
    first_path [] = None
    first_path (tree ∷ _) = path tree symbol

-- The tree to which the bits lead from the root, or none if they lead past a leaf.
abbrev pub subtree : Tree → List Bool → Option Tree
subtree tree [] = Some tree
subtree (Leaf s) (bit ∷ bits) = None
subtree (Node lesser other) (false ∷ bits) = subtree lesser bits
subtree (Node lesser other) (true ∷ bits) = subtree other bits

-- The bits lead to an inner node, so another bit is read.
abbrev pub ReadsOnIn : Tree → List Bool → Type 0
ReadsOnIn tree bits = (lesser : Tree) × (other : Tree) × (subtree tree bits ≡ Some (Node lesser other))

-- The symbols of a tree from left to right.
abbrev pub leaves : Tree → List ℕ
leaves (Leaf s) = s ∷ []
leaves (Node lesser other) = leaves lesser ++ leaves other

-- The number of times that a symbol stands in a list.
abbrev pub occurrences : ℕ → List ℕ → ℕ
occurrences symbol [] = 0
occurrences symbol (s ∷ symbols) = (if s == symbol then 1 else 0) + occurrences symbol symbols

-- No symbol stands in the list twice.
abbrev pub IsWithoutRepeats : List ℕ → Type 0
IsWithoutRepeats symbols = (symbol : ℕ) → occurrences symbol symbols ≤ 1

-- Returns the list of `n` symbols from `symbol` on. Each symbol is the previous symbol plus 1.
abbrev pub symbols_from : ℕ → ℕ → List ℕ
symbols_from symbol zero = []
symbols_from symbol (suc n) = symbol ∷ symbols_from (symbol + 1) n

-- A number of symbols, and a codeword for each symbol below it.
pub record Book : Type 0 where
  pub symbols : ℕ
  pub codeword : ℕ → Option (List Bool)

-- The number of a tree's symbols, and their codewords.
abbrev pub book_of : Tree → Book
book_of tree = record { symbols = length (leaves tree); codeword = path tree }

-- The book has one symbol for each weight, and the codewords of the tree of these weights.
abbrev pub IsHuffman : List ℕ → Book → Type 0
IsHuffman weights book =
    (book.symbols ≡ length weights) × ((symbol : ℕ) → book.codeword symbol ≡ huffman weights symbol)

-- The two children of the node at an index, the lesser first. Unions have the indices from n on, in merging order.
abbrev pub children : ℕ → List (ℕ × ℕ) → ℕ → ℕ × ℕ
children n pairs index = get_or pairs (index - n) (0, 0)

-- The tree stands at an index. The first n indices are leaves, the others are unions with both children before them.
abbrev pub IsTreeAt : ℕ → List (ℕ × ℕ) → ℕ → Tree → Type 0
IsTreeAt n pairs index (Leaf s) = (index ≡ s) × (index < n)
IsTreeAt n pairs index (Node lesser other) =
    (n ≤ index) × (index < n + length pairs) × ((children n pairs index).0 < index)
    × ((children n pairs index).1 < index)
    × IsTreeAt n pairs (children n pairs index).0 lesser × IsTreeAt n pairs (children n pairs index).1 other

-- The tree at an index, built down at most `fuel` levels.
abbrev pub tree_at : ℕ → ℕ → List (ℕ × ℕ) → ℕ → Tree
tree_at zero n pairs index = Leaf index
tree_at (suc fuel) n pairs index =
    elim (ltb index n) [ true ↦ Leaf index | false ↦ Node (tree_at fuel n pairs (children n pairs index).0) (tree_at fuel n pairs (children n pairs index).1) ]

-- The index is neither child of the union.
abbrev pub IsNeither : ℕ → ℕ × ℕ → Type 0
IsNeither index pair = (pair.0 ≡ index → ⊥) × (pair.1 ≡ index → ⊥)

-- No union has the index as a child.
abbrev pub IsRoot : List (ℕ × ℕ) → ℕ → Type 0
IsRoot pairs index = All (IsNeither index) pairs

-- The pair can be the next union after those in `before`: it joins two different roots with lower indices.
pub record IsUnion (n : ℕ) (before : List (ℕ × ℕ)) (pair : ℕ × ℕ) : Type 0 where
  pub lesser_below : pair.0 < n + length before
  pub other_below : pair.1 < n + length before
  pub apart : pair.0 ≡ pair.1 → ⊥
  pub lesser_root : IsRoot before pair.0
  pub other_root : IsRoot before pair.1

-- Each pair is a union after the pairs before it.
abbrev pub AreUnions : ℕ → List (ℕ × ℕ) → Type 0
AreUnions n pairs = (j : ℕ) → j < length pairs → IsUnion n (take j pairs) (get_or pairs j (0, 0))

-- The weights with their indices, from `index` on.
abbrev pub keys_from : ℕ → List ℕ → List (ℕ × ℕ)
keys_from index [] = []
keys_from index (weight ∷ weights) = (weight, index) ∷ keys_from (index + 1) weights

-- The first pair is at most the second, by weight and then by index.
abbrev pub IsPairLe : ℕ × ℕ → ℕ × ℕ → Type 0
IsPairLe p q = (p.0 < q.0) ⊎ ((p.0 ≡ q.0) × (p.1 ≤ q.1))

-- Merging these weights gives this tree by these unions, the root last.
pub record IsMerged (weights : List ℕ) (pairs : List (ℕ × ℕ)) (tree : Tree) : Type 0 where
  pub is : merge weights ≡ tree ∷ []
  pub count : length pairs + 1 ≡ length weights
  pub unions : AreUnions (length weights) pairs
  pub root : IsRoot pairs (length weights + length pairs - 1)
  pub at : IsTreeAt (length weights) pairs (length weights + length pairs - 1) tree

-- The bits from the root to an index, found by climbing at most `fuel` levels. The entry of a node is twice its
-- parent's index, plus 1 for the other child. The root's entry is 0.
abbrev pub climbed : ℕ → List ℕ → ℕ → List Bool
climbed zero nodes index = []
climbed (suc fuel) nodes index =
    if get_or nodes index 0 == 0 then []
    else climbed fuel nodes (get_or nodes index 0 / 2) ++ (get_or nodes index 0 % 2 == 1) ∷ []

-- Each entry is 0, or half of it (rounded down) is an index above the entry's own index and below the bound.
abbrev pub GoesUp : ℕ → List ℕ → Type 0
GoesUp bound nodes =
    (index : ℕ) → (get_or nodes index 0 ≡ 0) ⊎ ((index < get_or nodes index 0 / 2) × (get_or nodes index 0 / 2 < bound))

-- The entries of children name their unions, which have higher indices. The entries of roots are 0.
pub record IsParents (n : ℕ) (pairs : List (ℕ × ℕ)) (nodes : List ℕ) : Type 0 where
  pub lesser : (j : ℕ) → j < length pairs → get_or nodes (get_or pairs j (0, 0)).0 0 ≡ 2 * (n + j)
  pub other : (j : ℕ) → j < length pairs → get_or nodes (get_or pairs j (0, 0)).1 0 ≡ 2 * (n + j) + 1
  pub roots : (index : ℕ) → IsRoot pairs index → get_or nodes index 0 ≡ 0
  pub up : GoesUp (n + length pairs) nodes

-- The place of the first entry with this value, or the number of entries if there is none.
abbrev pub found : ℕ → List ℕ → ℕ
found value [] = 0
found value (entry ∷ entries) = if entry == value then 0 else suc (found value entries)

-- The tree at an index of a list of parents, built down at most `fuel` levels.
abbrev pub tree_in : ℕ → List ℕ → ℕ → Tree
tree_in zero nodes index = Leaf index
tree_in (suc fuel) nodes index =
    elim (ltb index (length nodes / 2 + 1)) [ true ↦ Leaf index | false ↦ Node (tree_in fuel nodes (found (2 * index) nodes)) (tree_in fuel nodes (found (2 * index + 1) nodes)) ]
