-- Worked values: the definitions of tables and windows compute.
use Rattle.std.proofs.Common.{◌≡◌, ◌<◌, [], ◌∷◌, refl, arith}
use Rattle.constriction_base.specs.Tables.{IsTable, table_of, weights_between}
use Rattle.constriction_base.specs.laws.Weights.{weights_make_table}
use Rattle.constriction_base.specs.Windows.{IsMovedIn, IsMovedOut}

-- two weights
pub two_weights : table_of (255 ∷ 1 ∷ []) ≡ (0, 0, 255) ∷ (1, 255, 1) ∷ []
two_weights = refl

-- weights of 0 in front, inside and at the end have no entry
pub weights_with_zeros : table_of (0 ∷ 0 ∷ 100 ∷ 0 ∷ 156 ∷ 0 ∷ []) ≡ (2, 0, 100) ∷ (4, 100, 156) ∷ []
weights_with_zeros = refl

-- weights that add up to two to the eighth make a table of eight bits
pub table_of_eight_bits : IsTable 8 (table_of (255 ∷ 1 ∷ []))
table_of_eight_bits = weights_make_table 8 (255 ∷ 1 ∷ []) refl

-- weights again, from where their intervals begin
pub weights_of_starts : weights_between (0 ∷ 255 ∷ []) 256 ≡ 255 ∷ 1 ∷ []
weights_of_starts = refl

-- the word 7 moves in below the number 1, as bytes do, and out again
pub byte_moves_in : IsMovedIn 8 1 (7 ∷ 9 ∷ []) 263 (9 ∷ [])
byte_moves_in = record { word = 7; fits = below; taken = refl; grown = refl }
  where
    below : 7 < 256
    below = omega arith

pub byte_moves_out : IsMovedOut 8 263 (9 ∷ []) 1 (7 ∷ 9 ∷ [])
byte_moves_out = byte_moves_in
