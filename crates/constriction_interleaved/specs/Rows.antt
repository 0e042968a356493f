-- Stack coders side by side, each over a row of words. Row `j` of every list belongs to coder `j`.
use Rattle.std.specs.Prelude.{ℕ, ◌*◌, ◌<◌, ◌≤◌, List, drop, take, slice_index, slice_index_or}
use Rattle.constriction_base.specs.Models.{Model, items_of}
use Rattle.constriction_stack.specs.Lanes.{lane}
use Rattle.constriction_stack.specs.Symbols.{DecodesAll}

-- Row `j` of a matrix whose rows have `width` items.
abbrev pub row : {A : Type 0} → ℕ → ℕ → List A → List A
row width j xs = take width (drop (j * width) xs)

-- Decoding the symbols of row `j` leads coder `j` from its old state to its new state. The coder takes words from its own
-- row. The rows of words have `width` words, and the rows of symbols have `count` symbols.
abbrev pub DecodesLane : {W V : Type 0} → (W → ℕ) → (V → ℕ) → ℕ → ℕ → Model ℕ → ℕ → ℕ → List W → List V → List ℕ → List V → List ℕ → List ℕ → ℕ → Type 0
DecodesLane {W} {V} number state w s model width count words heads lens new_heads new_lens symbols j =
    (d : V) → DecodesAll w s (items_of model (row count j symbols))
    (lane number state (slice_index_or heads j d) (row width j words) (slice_index lens j))
    (lane number state (slice_index_or new_heads j d) (row width j words) (slice_index new_lens j))
    × (slice_index new_lens j ≤ slice_index lens j)

-- `DecodesLane` holds for each of the first `n` coders.
abbrev pub DecodesLanes : {W V : Type 0} → (W → ℕ) → (V → ℕ) → ℕ → ℕ → Model ℕ → ℕ → ℕ → List W → List V → List ℕ → List V → List ℕ → List ℕ → ℕ → Type 0
DecodesLanes number state w s model width count words heads lens new_heads new_lens symbols n =
    (j : ℕ) → j < n → DecodesLane number state w s model width count words heads lens new_heads new_lens symbols j
