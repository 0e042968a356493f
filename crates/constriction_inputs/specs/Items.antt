-- Items at the positions of a list.
use Rattle.std.specs.Prelude.{◌≡◌, ℕ, ◌≤◌, zero, suc, List, [], ◌∷◌}
use Rattle.constriction_base.specs.Models.{Item}
use Rattle.constriction_base.specs.Tables.{Has, IsTable}

-- The list has an item at this position, and the item has the property `holds`.
abbrev pub HasAt : List (Item ℕ) → ℕ → (Item ℕ → Type 0) → Type 0
HasAt [] place holds = ⊥
HasAt (item ∷ items) zero holds = holds item
HasAt (item ∷ items) (suc place) holds = HasAt items place holds

-- In a lawful table at this precision, the interval of the symbol has the length p and begins at `left`.
pub record IsEntryOf (precision bits : ℕ) (table : List (ℕ × ℕ × ℕ)) (symbol left p : ℕ) : Type 0 where
  pub sized : (1 ≤ precision) × (precision ≤ bits)
  pub lawful : IsTable precision table
  pub has : Has table symbol left p

-- The same for an item, whose model has this precision.
abbrev pub HasInterval : ℕ → ℕ → ℕ → ℕ → Item ℕ → Type 0
HasInterval precision bits left p item = (item.model.precision ≡ precision) × IsEntryOf precision bits item.model.table item.symbol left p
