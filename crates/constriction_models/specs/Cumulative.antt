-- The sums of a row of counts, and the counts that belong to a list of sums.
use Rattle.std.specs.Prelude.{ℕ, ◌+◌, ◌-◌, List, [], ◌∷◌, length}
use Rattle.constriction_base.specs.Tables.{Sums}

-- The differences of neighbouring numbers of a list.
abbrev pub differences : List ℕ → List ℕ
differences [] = []
differences (x ∷ []) = []
differences (x ∷ y ∷ ys) = (y - x) ∷ differences (y ∷ ys)

-- The list `sums` has the sum of the counts before each count, and then the sum of all counts.
abbrev pub AreSums : List ℕ → List ℕ → Type 0
AreSums counts sums = Sums (λ (count : ℕ). count) counts sums (length counts + 1)
