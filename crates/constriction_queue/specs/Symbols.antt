-- The effect of encoding and decoding symbols, each under its own model, on a range coder's run.
use Rattle.std.specs.Prelude.{◌≡◌, ℕ, ◌+◌, ◌-◌, ◌*◌, ◌/◌, ◌<◌, ◌^◌, ◌⊎◌, List, [], drop}
use Rattle.constriction_base.specs.Steps.{Trace}
use Rattle.constriction_base.specs.Tables.{AtEntry}
use Rattle.constriction_base.specs.Models.{Model, Item}
use Rattle.constriction_queue.specs.Range.{Run, QuantileInInterval, narrowed_by, offset}

-- Returns the model with this precision, and with the table that the function `table` gives for `model`.
abbrev pub model_by : {S M : Type 0} → ℕ → (M → List (S × ℕ × ℕ)) → M → Model S
model_by precision table model = record { precision = precision; table = table model }

-- Encoding the symbol leads from the old run to the new run: the interval is narrowed to the symbol's entry.
abbrev pub Narrows : {S : Type 0} → ℕ → ℕ → Model S → S → Run → Run → Type 0
Narrows w s model symbol old new = AtEntry model.precision model.table symbol (λ e. new ≡ narrowed_by w s e old)

-- Decoding the symbol from these words leads from the old run to the new run. The quantile that is read at the old run
-- lies in the symbol's entry, and the interval is narrowed to this entry.
abbrev pub Finds : {S : Type 0} → ℕ → ℕ → List ℕ → Model S → S → Run → Run → Type 0
Finds w s words model symbol old new = AtEntry model.precision model.table symbol (λ e. QuantileInInterval w s words e old × (new ≡ narrowed_by w s e old))

-- Encoding the items in order leads from the old run to the new run.
abbrev pub NarrowsAll : {S : Type 0} → ℕ → ℕ → List (Item S) → Run → Run → Type 0
NarrowsAll w s items old new = Trace (λ item. Narrows w s item.model item.symbol) items old new

-- Decoding the items from these words, in order, leads from the old run to the new run.
abbrev pub FindsAll : {S : Type 0} → ℕ → ℕ → List ℕ → List (Item S) → Run → Run → Type 0
FindsAll w s words items old new = Trace (λ item. Finds w s words item.model item.symbol) items old new

-- No symbol was coded, or the number read is as close to the low end of the interval as after a seal.
abbrev pub NearsEnd : ℕ → ℕ → List ℕ → Run → Type 0
NearsEnd w s words r = (r.range + 1 ≡ 2 ^ s) ⊎ (offset w s words r + 1 < 2 * 2 ^ (s - w))

-- All encoded symbols may have been decoded at this run: no word is left to read, and `NearsEnd` holds.
abbrev pub MayEnd : ℕ → ℕ → List ℕ → Run → Type 0
MayEnd w s words r = (drop (r.moves + s / w) words ≡ []) × NearsEnd w s words r
