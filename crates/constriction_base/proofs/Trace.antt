-- Steps taken one after the other: joined, one more, seen as other steps, and turned round.
use Rattle.std.specs.Prelude.{reverse, map}
use Rattle.std.proofs.Common.{List, [], ◌∷◌, ◌++◌, refl, sym, subst, ap}
use Rattle.std.proofs.lemmas.List.{reverse-append, map_push}
use Rattle.constriction_base.specs.Models.{Model, Item, item_of, items_of}
use Rattle.constriction_base.specs.Steps.{Trace}

-- steps after other steps
pub Trace-append : {E S : Type 0} (leads : E → S → S → Type 0) (ds es : List E) (a b c : S) → Trace leads ds a b → Trace leads es b c → Trace leads (ds ++ es) a c
Trace-append {S = S} leads [] es a b c h k = subst (λ (x : S). Trace leads es x c) h k
Trace-append leads (d ∷ ds) es a b c h k = (h.0, h.1, Trace-append leads ds es h.0 b c h.2 k)

-- one step more, at the end
pub Trace-more : {E S : Type 0} (leads : E → S → S → Type 0) (es : List E) (e : E) (a b c : S) → Trace leads es a b → leads e b c → Trace leads (es ++ e ∷ []) a c
Trace-more leads es e a b c h k = Trace-append leads es (e ∷ []) a b c h (c, k, refl)

-- one symbol more, under the same model
pub Trace-symbol : {A S : Type 0} (leads : Item A → S → S → Type 0) (model : Model A) (xs : List A) (x : A) (a b c : S)
    → Trace leads (items_of model xs) a b → leads (item_of model x) b c → Trace leads (items_of model (xs ++ x ∷ [])) a c
Trace-symbol {A} leads model xs x a b c h k =
    subst (λ (items : List (Item A)). Trace leads items a c) (sym (map_push (item_of model) xs x)) (Trace-more leads (items_of model xs) (item_of model x) a b c h k)

-- the steps of one list stand for those of another, and their states for others
pub Trace-map : {E D S T : Type 0} (f : E → D) (view : S → T) (leads : E → S → S → Type 0) (others : D → T → T → Type 0)
    → ((e : E) (a b : S) → leads e a b → others (f e) (view a) (view b))
    → (es : List E) (a b : S) → Trace leads es a b → Trace others (map f es) (view a) (view b)
Trace-map f view leads others each [] a b h = ap view h
Trace-map f view leads others each (e ∷ es) a b h = (view h.0, each e a h.0 h.1, Trace-map f view leads others each es h.0 b h.2)

-- the steps from the second on, last first, and then the first
pub Trace-turned : {E S : Type 0} (leads : E → S → S → Type 0) (e : E) (es : List E) (a b c : S) → Trace leads (reverse es) a b → leads e b c → Trace leads (reverse (e ∷ es)) a c
Trace-turned {E = E} leads e es a b c h k =
    subst (λ (ds : List E). Trace leads ds a c) (sym (reverse-append (e ∷ []) es)) (Trace-more leads (reverse es) e a b c h k)

-- the same steps seen from the new state back, from the last to the first
pub Trace-back : {E S : Type 0} (leads : E → S → S → Type 0) (es : List E) (a b : S) → Trace leads es a b → Trace (λ e x y. leads e y x) (reverse es) b a
Trace-back leads [] a b h = sym h
Trace-back leads (e ∷ es) a b h = Trace-turned (λ e x y. leads e y x) e es b h.0 a (Trace-back leads es h.0 b h.2) h.1
