-- Symbols onto a state, one more at a time.
use Rattle.std.specs.List.{Any}
use Rattle.std.proofs.Common.{◌≡◌, ℕ, ◌+◌, ◌<◌, ◌≤◌, inr, List, [], ◌∷◌, ◌++◌, length, get_or, drop, drop-cons, reverse, add-one, ◌∙◌, ap, sym, subst, refl, arith}
use Rattle.std.proofs.lemmas.List.{drop_all, get_or_default, reverse-append}
use Rattle.constriction_base.specs.Models.{Model, items_of}
use Rattle.constriction_base.specs.Tables.{Impossible}
use Rattle.constriction_stack.specs.Ans.{AnsState, IsNormalized, empty}
use Rattle.constriction_stack.specs.Symbols.{Encodes, EncodesAll}
use Rattle.constriction_base.proofs.Trace.{Trace-symbol}

-- a coder that holds nothing is valid
pub empty_valid : IsNormalized 32 64 empty
empty_valid = record { state = record { fits = omega arith; are_words = tt }; full = inr refl }

-- where no symbol is left, none was encoded
pub encoded-none : (model : Model ℕ) (symbols : List ℕ) (place : ℕ) (state : AnsState) → length symbols ≤ place → state ≡ empty → EncodesAll 32 64 (items_of model (reverse (drop place symbols))) empty state
encoded-none model symbols place state past is = rw (drop_all place symbols past) is

-- the symbol before those that were encoded
pub encoded-more : (model : Model ℕ) (symbols : List ℕ) (place behind : ℕ) (old new : AnsState) → place < length symbols → behind ≡ place + 1
    → EncodesAll 32 64 (items_of model (reverse (drop behind symbols))) empty old → Encodes 32 64 model (get_or symbols place 0) old new
    → EncodesAll 32 64 (items_of model (reverse (drop place symbols))) empty new
encoded-more model symbols place behind old new inside next encoded one =
    let symbol : ℕ = get_or symbols place 0 in
    let cut : drop place symbols ≡ symbol ∷ drop behind symbols = rw (next, add-one, drop-cons symbols place 0) refl in
    let turned : reverse (drop place symbols) ≡ reverse (drop behind symbols) ++ symbol ∷ [] = ap reverse cut ∙ reverse-append (symbol ∷ []) (drop behind symbols) in
    subst (λ (xs : List ℕ). EncodesAll 32 64 (items_of model xs) empty new) (sym turned)
    (Trace-symbol (λ item. Encodes 32 64 item.model item.symbol) model (reverse (drop behind symbols)) symbol empty old new encoded one)

-- an impossible symbol at a place
pub impossible_at : (table : List (ℕ × ℕ × ℕ)) (symbols : List ℕ) (place : ℕ) → place < length symbols → Impossible table (get_or symbols place 0) → Any (Impossible table) symbols
impossible_at table symbols place inside none = (place, get_or symbols place 0, inside, get_or_default symbols place (get_or symbols place 0) 0 inside, none)
