-- The outcomes of encoding and decoding lists of symbols: the symbols returned, or the reason for an error.
use Rattle.std.specs.Prelude.{◌≡◌, ℕ, ◌<◌, ◌≤◌, ⊤, List, ◌∷◌, ◌++◌, Result, Ok, Err, IfOk, Vec, length, drop}
use Rattle.std.specs.List.{zip}
use Rattle.constriction_base.specs.Steps.{Step, Trace}
use Rattle.constriction_base.specs.Tables.{Impossible}
use Rattle.constriction_base.specs.Models.{Item, Model, pairs_of}
use Rattle.constriction_stream.specs.Symbols.{DecodesByModel}
use Rattle.constriction_laws.specs.declared.errors.Stopped.{Stopped}
use Rattle.constriction_laws.specs.declared.errors.Stopped.TheVariants.{Refused, NoMemory}
use Rattle.constriction_laws.specs.declared.errors.RoundTripError.{RoundTripError}
use Rattle.constriction_laws.specs.declared.errors.RoundTripError.TheVariants as trip

-- Decoding the symbols in order, each under its own model, leads from the old decoder to the new decoder.
abbrev pub DecodesPairs : {C S M E : Type 0} → (C → Step → Result (Unit {0}) E → C → Type 0) → (C → E → C → Type 0) → ℕ
    → (M → List (S × ℕ × ℕ)) → List S → List M → C → C → Type 0
DecodesPairs {S = S} {M = M} decodes halts precision table symbols models old new =
    Trace (λ (pair : S × M) old new. DecodesByModel decodes halts precision table old pair.1 (Ok pair.0) new)
    (zip symbols models) old new

-- A list of decodes, one for each model, stops early on any decoder. `Refused(e)`: the first `taken` models gave
-- symbols, and the decode under the next model fails with e. `NoMemory`: decodes under the first models of the list
-- gave symbols, and `taken` is 0.
abbrev pub StopsAmong : {C S M E : Type 0} → (C → Step → Result (Unit {0}) E → C → Type 0) → (C → E → C → Type 0) → ℕ → (M → List (S × ℕ × ℕ)) → List M → ℕ → C → Stopped E → C → Type 0
StopsAmong {C} {S} {M} {E} decodes halts precision table models taken old (Refused e) new = (given : List S) × (mid : C) × (model : M) × (rest : List M)
    × (length given ≡ taken) × (taken < length models) × (drop (length given) models ≡ model ∷ rest)
    × Trace (λ (pair : S × M) old new. DecodesByModel decodes halts precision table old pair.1 (Ok pair.0) new) (zip given models) old mid
    × DecodesByModel {S = S} decodes halts precision table mid model (Err e) new
StopsAmong {C} {S} {M} decodes halts precision table models taken old NoMemory new = (taken ≡ 0) × (given : List S) × (length given ≤ length models)
    × Trace (λ (pair : S × M) old new. DecodesByModel decodes halts precision table old pair.1 (Ok pair.0) new) (zip given models) old new

-- At least one item has an impossible symbol: the table of the item's model has no entry for the symbol.
abbrev pub HasImpossibleItem : {S : Type 0} → List (Item S) → Type 0
HasImpossibleItem {S} items = (before after : List (Item S)) × (item : Item S) × (items ≡ before ++ item ∷ after) × Impossible item.model.table item.symbol

-- For each error of a round trip, the reason that holds when a call returns it. `Refused` has no reason.
abbrev pub Reasons : Type 0 → Type 0 → Type 0 → (ℕ → Type 0) → RoundTripError → Type 0
Reasons impossible many invalid ended trip.ImpossibleSymbol = impossible
Reasons impossible many invalid ended trip.TooManySymbols = many
Reasons impossible many invalid ended trip.InvalidData = invalid
Reasons impossible many invalid ended (trip.OutOfData taken) = ended taken
Reasons impossible many invalid ended trip.Refused = ⊤

-- The statement `known` holds if the error is `Refused`.
abbrev pub IfRefused : Type 0 → RoundTripError → Type 0
IfRefused known trip.Refused = known
IfRefused known other = ⊤

-- The only possible error is `Refused`: memory or a word was refused.
abbrev pub OnlyRefused : RoundTripError → Type 0
OnlyRefused e = e ≡ trip.Refused

-- The only possible errors are `Refused` and `ImpossibleSymbol`. If the error is `ImpossibleSymbol`, the statement
-- `impossible` holds.
abbrev pub UnlessImpossible : Type 0 → RoundTripError → Type 0
UnlessImpossible impossible e = Reasons impossible ⊥ ⊥ (λ taken. ⊥) e

-- The only possible errors are `Refused` and `InvalidData`. If the error is `InvalidData`, the statement `invalid`
-- holds.
abbrev pub UnlessInvalid : Type 0 → RoundTripError → Type 0
UnlessInvalid invalid e = Reasons ⊥ ⊥ invalid (λ taken. ⊥) e

-- ---- symbols that a call returned

-- Returns the model with this precision and this table.
abbrev pub model_at : {S : Type 0} → ℕ → List (S × ℕ × ℕ) → Model S
model_at precision table = record { precision = precision; table = table }

-- If the call succeeds, the property `holds` is true for the items of the returned symbols and these models, in order.
abbrev pub IfItems : {S M A E : Type 0} → ℕ → (M → List (S × ℕ × ℕ)) → List M → Result (Vec S A) E
    → (List (Item S) → Type 0) → Type 0
IfItems precision table models result holds = IfOk result (λ again. holds (pairs_of precision table again.items models))

-- A successful call returns symbols and another value. The property `holds` is then true for the items of the symbols
-- and these models, in order, and for the other value.
abbrev pub IfItemsWith : {S M A T E : Type 0} → ℕ → (M → List (S × ℕ × ℕ)) → List M → Result (Vec S A × T) E
    → (List (Item S) → T → Type 0) → Type 0
IfItemsWith precision table models result holds =
    IfOk result (λ back. holds (pairs_of precision table back.0.items models) back.1)

-- If there are as many symbols as models and the call succeeds, the call returns these symbols.
abbrev pub ReturnsSymbols : {S M A E : Type 0} → List M → List S → Result (Vec S A) E → Type 0
ReturnsSymbols models symbols result = length symbols ≡ length models → IfOk result (λ again. again.items ≡ symbols)

-- If there are as many symbols as models and the call succeeds, the call returns these symbols, and the statement
-- `holds` is true.
abbrev pub ReturnsSymbolsAnd : {S M A E : Type 0} → List M → List S → Result (Vec S A) E → Type 0 → Type 0
ReturnsSymbolsAnd models symbols result holds =
    length symbols ≡ length models → IfOk result (λ again. (again.items ≡ symbols) × holds)

-- If there are as many symbols as models and the call succeeds, the first part of the returned pair is the list of
-- these symbols.
abbrev pub ReturnsSymbolsWith : {S M A T E : Type 0} → List M → List S → Result (Vec S A × T) E → Type 0
ReturnsSymbolsWith models symbols result = length symbols ≡ length models → IfOk result (λ back. back.0.items ≡ symbols)

-- If there are as many symbols as models and the call succeeds, the first part of the returned pair is the list of
-- these symbols. In that case, the property `holds` is true for the second part.
abbrev pub ReturnsSymbolsWithOne : {S M A T E : Type 0} → List M → List S → Result (Vec S A × T) E → (T → Type 0) → Type 0
ReturnsSymbolsWithOne models symbols result holds =
    length symbols ≡ length models → IfOk result (λ back. (back.0.items ≡ symbols) × holds back.1)

-- If both values have the property `holds`, they are equal.
abbrev pub AreOne : {A : Type 0} → (A → Type 0) → A → A → Type 0
AreOne holds one other = holds one → holds other → one ≡ other
