-- Codewords of small lists of weights.
use Rattle.std.proofs.Common.{◌≡◌, ℕ, map, zero, suc, List, [], ◌∷◌, Bool, refl, Option, Some, None, true, false}
use Rattle.constriction_symbol.specs.Huffman.{Tree, huffman, merge, tree_at, tree_in, climbed}
use Rattle.constriction_symbol.specs.Huffman.Tree.{Leaf, Node}

-- the codewords of so many symbols, from a symbol on
abbrev codewords : List ℕ → ℕ → ℕ → List (Option (List Bool))
codewords weights symbol zero = []
codewords weights symbol (suc n) = huffman weights symbol ∷ codewords weights (suc symbol) n

of_five : codewords (2 ∷ 2 ∷ 4 ∷ 1 ∷ 1 ∷ []) 0 6 ≡ Some (false ∷ false ∷ []) ∷ Some (false ∷ true ∷ []) ∷ Some (true ∷ true ∷ []) ∷ Some (true ∷ false ∷ false ∷ []) ∷ Some (true ∷ false ∷ true ∷ []) ∷ None ∷ []
of_five = refl

of_two : codewords (2 ∷ 1 ∷ []) 0 3 ≡ Some (true ∷ []) ∷ Some (false ∷ []) ∷ None ∷ []
of_two = refl

of_one : codewords (1 ∷ []) 0 2 ≡ Some [] ∷ None ∷ []
of_one = refl

of_equal_weights : codewords (1 ∷ 1 ∷ 2 ∷ []) 0 4 ≡ Some (true ∷ false ∷ []) ∷ Some (true ∷ true ∷ []) ∷ Some (false ∷ []) ∷ None ∷ []
of_equal_weights = refl

of_zeros : codewords (0 ∷ 0 ∷ 0 ∷ []) 0 4 ≡ Some (true ∷ false ∷ []) ∷ Some (true ∷ true ∷ []) ∷ Some (false ∷ []) ∷ None ∷ []
of_zeros = refl

of_a_long_tree : codewords (1 ∷ 1 ∷ 2 ∷ 3 ∷ 5 ∷ []) 0 6
    ≡ Some (true ∷ true ∷ true ∷ false ∷ []) ∷ Some (true ∷ true ∷ true ∷ true ∷ []) ∷ Some (true ∷ true ∷ false ∷ []) ∷ Some (true ∷ false ∷ []) ∷ Some (false ∷ []) ∷ None ∷ []
of_a_long_tree = refl

of_a_byte_and_zero : codewords (255 ∷ 0 ∷ []) 0 3 ≡ Some (true ∷ []) ∷ Some (false ∷ []) ∷ None ∷ []
of_a_byte_and_zero = refl

of_none : codewords [] 0 2 ≡ None ∷ None ∷ []
of_none = refl

tree_of_none : merge [] ≡ []
tree_of_none = refl

-- the first of these trees, by the indices of what was merged, and by the array of parents
tree_of_five : Tree
tree_of_five = Node (Node (Leaf 0) (Leaf 1)) (Node (Node (Leaf 3) (Leaf 4)) (Leaf 2))

merged_of_five : merge (2 ∷ 2 ∷ 4 ∷ 1 ∷ 1 ∷ []) ≡ tree_of_five ∷ []
unfolding tree_of_five
merged_of_five = refl

pairs_of_five : tree_at 8 5 ((3, 4) ∷ (0, 1) ∷ (5, 2) ∷ (6, 7) ∷ []) 8 ≡ tree_of_five
unfolding tree_of_five
pairs_of_five = refl

parents_of_five : tree_in 8 (12 ∷ 13 ∷ 15 ∷ 10 ∷ 11 ∷ 14 ∷ 16 ∷ 17 ∷ 0 ∷ []) 8 ≡ tree_of_five
unfolding tree_of_five
parents_of_five = refl

climbs_of_five : map (climbed 8 (12 ∷ 13 ∷ 15 ∷ 10 ∷ 11 ∷ 14 ∷ 16 ∷ 17 ∷ 0 ∷ [])) (0 ∷ 1 ∷ 2 ∷ 3 ∷ 4 ∷ [])
    ≡ (false ∷ false ∷ []) ∷ (false ∷ true ∷ []) ∷ (true ∷ true ∷ []) ∷ (true ∷ false ∷ false ∷ []) ∷ (true ∷ false ∷ true ∷ []) ∷ []
climbs_of_five = refl
