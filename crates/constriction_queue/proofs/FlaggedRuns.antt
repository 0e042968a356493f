-- Symbols with a flag among them, one more at a time.
use Rattle.std.specs.Prelude.{Result, Ok, Err}
use Rattle.std.proofs.Common.{◌≡◌, ◌∙◌, ◌<◌, ◌+◌, ◌==◌, ◌||◌, ℕ, suc, Bool, true, false, if◌then◌else◌, List, [], ◌∷◌, ◌++◌, get_or, length, take, drop, refl, sym, ap, subst}
use Rattle.std.proofs.Math.Seq.{drop-cons}
use Rattle.std.proofs.lemmas.List.{map-append, take-append-drop, take_more}
use Rattle.constriction_base.specs.Models.{Model, Item, item_of, items_of}
use Rattle.constriction_base.specs.Steps.{Trace}
use Rattle.constriction_base.proofs.Trace.{Trace-more}
use Rattle.constriction_queue.specs.Flagged.{flagged, has_flag, next_model, StepsToFault}

module _ (flag : ℕ) (first second : Model ℕ) where
  -- what stands behind symbols, by the flag that is among them
  abbrev pub behind : Bool → List ℕ → List (Item ℕ)
  behind switched symbols = if switched then items_of second symbols else flagged flag first second symbols

  pub flagged_front : (xs ys : List ℕ) → flagged flag first second (xs ++ ys) ≡ flagged flag first second xs ++ behind (has_flag flag xs) ys
  flagged_front [] ys = refl
  flagged_front (x ∷ xs) ys = by_test (x == flag) (flagged_front xs ys)
    where
      by_test : (b : Bool) → flagged flag first second (xs ++ ys) ≡ flagged flag first second xs ++ behind (has_flag flag xs) ys
          → ◌≡◌ {A = List (Item ℕ)} (item_of first x ∷ behind b (xs ++ ys)) ((item_of first x ∷ behind b xs) ++ behind (b || has_flag flag xs) ys)
      by_test true front = ap (λ (items : List (Item ℕ)). item_of first x ∷ items) (map-append (item_of second) xs ys)
      by_test false front = ap (λ (items : List (Item ℕ)). item_of first x ∷ items) front

  -- the model of a symbol behind others is that which their flag leaves
  next_front : (b : Bool) (y : ℕ) (ys : List ℕ) → (rest : List (Item ℕ)) × (behind b (y ∷ ys) ≡ item_of (next_model b first second) y ∷ rest)
  next_front true y ys = (items_of second ys, refl)
  next_front false y ys = (behind (y == flag) ys, refl)

  next_alone : (b : Bool) (y : ℕ) → behind b (y ∷ []) ≡ item_of (next_model b first second) y ∷ []
  next_alone true y = refl
  next_alone false y = by_test (y == flag)
    where
      by_test : (b : Bool) → ◌≡◌ {A = List (Item ℕ)} (item_of first y ∷ behind b []) (item_of first y ∷ [])
      by_test true = refl
      by_test false = refl

  pub flagged_more : (xs : List ℕ) (x : ℕ) → flagged flag first second (xs ++ x ∷ []) ≡ flagged flag first second xs ++ item_of (next_model (has_flag flag xs) first second) x ∷ []
  flagged_more xs x = flagged_front xs (x ∷ []) ∙ ap (λ (items : List (Item ℕ)). flagged flag first second xs ++ items) (next_alone (has_flag flag xs) x)

pub flag_more : (flag : ℕ) (xs : List ℕ) (x : ℕ) → has_flag flag (xs ++ x ∷ []) ≡ (has_flag flag xs || x == flag)
flag_more flag [] x = by_test (x == flag)
  where
    by_test : (b : Bool) → (b || false) ≡ (false || b)
    by_test true = refl
    by_test false = refl
flag_more flag (y ∷ xs) x = by_test (y == flag) (flag_more flag xs x)
  where
    by_test : (b : Bool) → has_flag flag (xs ++ x ∷ []) ≡ (has_flag flag xs || x == flag) → (b || has_flag flag (xs ++ x ∷ [])) ≡ ((b || has_flag flag xs) || x == flag)
    by_test true more = refl
    by_test false more = more

-- ---- steps at the first symbols of a list, and at the next
pub flag_at : (flag : ℕ) (symbols : List ℕ) (k : ℕ) (switched : Bool) → k < length symbols → switched ≡ has_flag flag (take k symbols)
    → (switched || get_or symbols k 0 == flag) ≡ has_flag flag (take (k + 1) symbols)
flag_at flag symbols k switched inside is =
    ap (λ (b : Bool). b || get_or symbols k 0 == flag) is ∙ sym (flag_more flag (take k symbols) (get_or symbols k 0))
    ∙ ap (has_flag flag) (sym (take_more symbols k 0 inside))

module _ {C E : Type 0} (step : C → Item ℕ → Result (Unit {0}) E → C → Type 0) (flag : ℕ) (first second : Model ℕ) (symbols : List ℕ) (k : ℕ) (old mid new : C) (switched : Bool)
    (inside : k < length symbols) (is : switched ≡ has_flag flag (take k symbols))
    (coded : Trace (λ item before after. step before item (Ok tt) after) (flagged flag first second (take k symbols)) old mid) where
  pub coded_more : step mid (item_of (next_model switched first second) (get_or symbols k 0)) (Ok tt) new
      → Trace (λ item before after. step before item (Ok tt) after) (flagged flag first second (take (k + 1) symbols)) old new
  coded_more next =
      let one = subst (λ (b : Bool). step mid (item_of (next_model b first second) (get_or symbols k 0)) (Ok tt) new) is next in
      subst (λ (items : List (Item ℕ)). Trace (λ item before after. step before item (Ok tt) after) items old new)
      (sym (flagged_more flag first second (take k symbols) (get_or symbols k 0)) ∙ ap (flagged flag first second) (sym (take_more symbols k 0 inside)))
      (Trace-more (λ (item : Item ℕ) (before after : C). step before item (Ok tt) after) (flagged flag first second (take k symbols))
      (item_of (next_model (has_flag flag (take k symbols)) first second) (get_or symbols k 0)) old mid new coded one)

  pub fault_at : (e : E) → step mid (item_of (next_model switched first second) (get_or symbols k 0)) (Err e) new
      → StepsToFault step old (flagged flag first second symbols) (Err e) new
  fault_at e next =
      let before : List ℕ = take k symbols in
      let symbol : ℕ = get_or symbols k 0 in
      let b : Bool = has_flag flag before in
      let one = subst (λ (b : Bool). step mid (item_of (next_model b first second) symbol) (Err e) new) is next in
      let rest = next_front flag first second b symbol (drop (suc k) symbols) in
      let parts : symbols ≡ before ++ symbol ∷ drop (suc k) symbols = sym (take-append-drop k symbols) ∙ ap (λ (ys : List ℕ). before ++ ys) (drop-cons symbols k 0 inside) in (
        flagged flag first second before,
        item_of (next_model b first second) symbol,
        rest.0,
        mid,
        ap (flagged flag first second) parts ∙ flagged_front flag first second before (symbol ∷ drop (suc k) symbols) ∙ ap (λ (items : List (Item ℕ)). flagged flag first second before ++ items) rest.1,
        coded,
        one,
      )
