-- Items at the positions of a list, and steps of a coder for them.
use Rattle.std.proofs.Common.{◌≡◌, ℕ, zero, suc, take, reverse, add-one, ◌+◌, ◌-◌, ◌<◌, ◌≤◌, List, [], ◌∷◌, ◌++◌, length, drop, get_or, refl, ap, subst, sym, ◌∙◌, arith}
use Rattle.std.proofs.lemmas.List.{get_or_read, reverse-append}
use Rattle.constriction_base.specs.Models.{AreKnown, AreModels, IsModel, Item, Knows, item_of, pairs_of}
use Rattle.constriction_base.specs.Steps.{IsStep, Step, Trace}
use Rattle.constriction_base.proofs.Entering.{entry_is_step}
use Rattle.constriction_inputs.specs.Items.{HasAt, HasInterval}
use Rattle.constriction_base.proofs.Trace.{Trace-more}

-- the item at a position stands before those behind it
pub at_place : (items : List (Item ℕ)) (k : ℕ) (holds : Item ℕ → Type 0) → HasAt items k holds → (x : Item ℕ) × (drop k items ≡ x ∷ drop (suc k) items) × holds x
at_place [] k holds at = absurd at
at_place (x ∷ items) zero holds at = (x, refl, at)
at_place (x ∷ items) (suc k) holds at = at_place items k holds at

-- the last of so many
pub last_at : (items : List (Item ℕ)) (left : ℕ) (holds : Item ℕ → Type 0) → 0 < left → HasAt items (left - 1) holds
    → (x : Item ℕ) × (drop (left - 1) items ≡ x ∷ drop left items) × holds x
last_at items left holds some at =
    let one : suc (left - 1) ≡ left = omega (arith, some) in
    let found = at_place items (left - 1) holds at in
    (found.0, subst (λ (n : ℕ). drop (left - 1) items ≡ found.0 ∷ drop n items) one found.1, found.2)

-- the item at a position stands behind those before it
pub taken_at : (items : List (Item ℕ)) (k : ℕ) (holds : Item ℕ → Type 0) → HasAt items k holds → (x : Item ℕ) × (take (suc k) items ≡ take k items ++ (x ∷ [])) × holds x
taken_at [] k holds at = absurd at
taken_at (x ∷ items) zero holds at = (x, refl, at)
taken_at (x ∷ items) (suc k) holds at = (let t = taken_at items k holds at in (t.0, ap (λ xs. x ∷ xs) t.1, t.2))

-- what a property of an item says, says the item at a position
pub has_more : (items : List (Item ℕ)) (k : ℕ) (holds more : Item ℕ → Type 0) → ((item : Item ℕ) → holds item → more item) → HasAt items k holds → HasAt items k more
has_more [] k holds more each at = at
has_more (x ∷ items) zero holds more each at = each x at
has_more (x ∷ items) (suc k) holds more each at = has_more items k holds more each at

-- where an item isn't known, not all are
pub unknown : (items : List (Item ℕ)) (k : ℕ) → HasAt items k (λ item. Knows item.model item.symbol → ⊥) → AreKnown items → ⊥
unknown [] k at known = absurd at
unknown (x ∷ items) zero at known = at known.0
unknown (x ∷ items) (suc k) at known = unknown items k at known.1

-- symbols under tables, at a position
pub pair_has : (precision : ℕ) (xs : List ℕ) (tables : List (List (ℕ × ℕ × ℕ))) (k : ℕ) (holds : Item ℕ → Type 0) → k < length xs → k < length tables
    → holds (item_of (record { precision = precision; table = get_or tables k [] }) (get_or xs k 0)) → HasAt (pairs_of precision (λ (t : List (ℕ × ℕ × ℕ)). t) xs tables) k holds
pair_has precision [] ts k holds within within' h = absurd (omega arith)
pair_has precision (x ∷ xs) [] k holds within within' h = absurd (omega arith)
pair_has precision (x ∷ xs) (t ∷ ts) zero holds within within' h = h
pair_has precision (x ∷ xs) (t ∷ ts) (suc k) holds within within' h = pair_has precision xs ts k holds (omega arith) (omega arith) h

-- the table of the model that a list is turned to
pub table_turned : (made tables : List (List (ℕ × ℕ × ℕ))) (turned place : ℕ) (table : List (ℕ × ℕ × ℕ)) → turned ≡ place → made ≡ tables → place < length tables → table ≡ get_or made turned table
    → table ≡ get_or tables place []
table_turned made tables turned place table is same within here =
    let there : table ≡ get_or tables place table = subst (λ (n : ℕ). table ≡ get_or tables n table) is (subst (λ (ts : List (List (ℕ × ℕ × ℕ))). table ≡ get_or ts turned table) same here) in
    get_or_read tables place table within there []

module _ (w precision bits : ℕ) (narrow : bits ≤ w) (items : List (Item ℕ)) (left : ℕ) (some : 0 < left) (l p : ℕ) (at : HasAt items (left - 1) (HasInterval precision bits l p)) where
  abbrev pub step : Step
  step = record { precision = precision; left = l; p = p }

  found : (x : Item ℕ) × (drop (left - 1) items ≡ x ∷ drop left items) × HasInterval precision bits l p x
  found = last_at items left (HasInterval precision bits l p) some at

  -- its interval is a step
  pub is_step : IsStep w step
  is_step = (let e = found.2.1 in entry_is_step w precision bits l p found.0.model.table found.0.symbol e.lawful e.has e.sized narrow)

  lawful_at : IsModel w found.0.model
  lawful_at =
      let same = found.2.0 in
      let e = found.2.1 in
      record { some_bits = omega (arith, same, e.sized.0); within_word = omega (arith, same, e.sized.1, narrow); lawful = rw same e.lawful }

  -- one model more
  pub models_more : AreModels w (drop left items) → AreModels w (drop (left - 1) items)
  models_more models = subst (λ (xs : List (Item ℕ)). AreModels w xs) (sym found.1) (lawful_at, models)

-- the interval of an item at a position is a step
pub is_step_at : (w precision bits : ℕ) (items : List (Item ℕ)) (k l p : ℕ) → HasAt items k (HasInterval precision bits l p) → bits ≤ w → IsStep w (record { precision = precision; left = l; p = p })
is_step_at w precision bits items k l p at narrow =
    let found = at_place items k (HasInterval precision bits l p) at in
    let e = found.2.1 in
    entry_is_step w precision bits l p found.0.model.table found.0.symbol e.lawful e.has e.sized narrow

-- ---- steps of a coder for items at positions
module _ {C : Type 0} (leads : Item ℕ → C → C → Type 0) (items : List (Item ℕ)) where
  -- from the first to the last, one more
  pub further : (k : ℕ) (a b c : C) → Trace leads (take k items) a b → HasAt items k (λ item. leads item b c) → Trace leads (take (k + 1) items) a c
  further k a b c all at =
      let found = taken_at items k (λ item. leads item b c) at in
      rw (add-one, found.1) (Trace-more leads (take k items) found.0 a b c all found.2)

  -- from the last to the first, one more
  pub further_back : (left : ℕ) → 0 < left → (a b c : C) → Trace leads (reverse (drop left items)) a b → HasAt items (left - 1) (λ item. leads item b c)
      → Trace leads (reverse (drop (left - 1) items)) a c
  further_back left some a b c all at =
      let found = last_at items left (λ item. leads item b c) some at in
      subst (λ (xs : List (Item ℕ)). Trace leads xs a c) (sym (ap reverse found.1 ∙ reverse-append (found.0 ∷ []) (drop left items)))
      (Trace-more leads (reverse (drop left items)) found.0 a b c all found.2)
