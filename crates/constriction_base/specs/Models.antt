-- Models as coders see them (a precision and a table), and items (symbols with their models).
use Rattle.std.specs.Prelude.{ℕ, ◌≤◌, List, map}
use Rattle.std.specs.List.{AllByRecursion, zip}
use Rattle.constriction_base.specs.Tables.{Has, IsTable}

-- A model is its precision and its table.
pub record Model (S : Type 0) : Type 0 where
  pub precision : ℕ
  pub table : List (S × ℕ × ℕ)

-- The table partitions the numbers below 2 ^ precision, and the precision is from 1 to w bits.
pub record IsModel {S : Type 0} (w : ℕ) (model : Model S) : Type 0 where
  pub some_bits : 1 ≤ model.precision
  pub within_word : model.precision ≤ w
  pub lawful : IsTable model.precision model.table

-- The table has an entry for the symbol.
abbrev pub Knows : {S : Type 0} → Model S → S → Type 0
Knows model symbol = (left p : ℕ) × Has model.table symbol left p

-- A symbol, and the model under which it is coded.
pub record Item (S : Type 0) : Type 0 where
  pub model : Model S
  pub symbol : S

abbrev pub item_of : {S : Type 0} → Model S → S → Item S
item_of model symbol = record { model = model; symbol = symbol }

-- Symbols, all under the same model.
abbrev pub items_of : {S : Type 0} → Model S → List S → List (Item S)
items_of model symbols = map (item_of model) symbols

-- Symbols, each under the table of its own model, all at one precision.
abbrev pub pairs_of : {S M : Type 0} → ℕ → (M → List (S × ℕ × ℕ)) → List S → List M → List (Item S)
pairs_of precision table symbols models = map (λ pair. item_of (record { precision = precision; table = table pair.1 }) pair.0) (zip symbols models)

-- The models of the items.
abbrev pub models : {S : Type 0} → List (Item S) → List (Model S)
models items = map (λ item. item.model) items

-- Each item's model is lawful at words of w bits.
abbrev pub AreModels : {S : Type 0} → ℕ → List (Item S) → Type 0
AreModels w items = AllByRecursion (λ item. IsModel w item.model) items

-- Each item's model knows its symbol.
abbrev pub AreKnown : {S : Type 0} → List (Item S) → Type 0
AreKnown items = AllByRecursion (λ item. Knows item.model item.symbol) items
