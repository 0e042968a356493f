-- Worked rows: codewords under some weights, and their cost.
use Rattle.std.proofs.Common.{◌≡◌, ◌+◌, Bool, true, false, List, [], ◌∷◌, Some, refl, ℕ}
use Rattle.constriction_symbol.specs.Huffman.{huffman}
use Rattle.constriction_laws.specs.symbol.Cost.{cost}

-- the weights 1 1 2 3 5, whose codewords are 1110 1111 110 10 0, and cost 25
weights : List ℕ
weights = 1 ∷ 1 ∷ 2 ∷ 3 ∷ 5 ∷ []

codewords : List (List Bool)
codewords = (true ∷ true ∷ true ∷ false ∷ []) ∷ (true ∷ true ∷ true ∷ true ∷ []) ∷ (true ∷ true ∷ false ∷ []) ∷ (true ∷ false ∷ []) ∷ (false ∷ []) ∷ []

cost_of_five : cost weights codewords ≡ 25
unfolding weights codewords
cost_of_five = refl

first_of_five : huffman weights 0 ≡ Some (true ∷ true ∷ true ∷ false ∷ [])
unfolding weights
first_of_five = refl

last_of_five : huffman weights 4 ≡ Some (false ∷ [])
unfolding weights
last_of_five = refl

-- codewords of equal depth but one: 000 001 01 10 11, which cost 26
level : List (List Bool)
level = (false ∷ false ∷ false ∷ []) ∷ (false ∷ false ∷ true ∷ []) ∷ (false ∷ true ∷ []) ∷ (true ∷ false ∷ []) ∷ (true ∷ true ∷ []) ∷ []

cost_of_level : cost weights level ≡ 25 + 1
unfolding weights level
cost_of_level = refl

-- of three equal weights the leaf goes before the union: 10 11 0
third_of_zeros : huffman (0 ∷ 0 ∷ 0 ∷ []) 2 ≡ Some (false ∷ [])
third_of_zeros = refl
