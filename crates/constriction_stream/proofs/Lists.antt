-- Steps at the items of lists, and what iterators over lists gave.
use Rattle.std.specs.Iterator.{Yields}
use Rattle.std.specs.Iterator.Adapters.{rev_source, rev_steps}
use Rattle.std.specs.declared.iter.Rev.{Rev}
use Rattle.std.proofs.Common.{◌≡◌, ◌∙◌, ap, Option, Some, List, [], ◌∷◌, ◌++◌, Result, Ok, map}
use Rattle.constriction_base.proofs.Trace.{Trace-more, Trace-map}
use Rattle.constriction_stream.specs.Lists.{StepsAll}

-- one step more, at the end
pub StepsAll-more : {C A E : Type 0} (step : C → A → Result (Unit {0}) E → C → Type 0) (old : C) (xs : List A) (mid : C) (x : A) (new : C)
    → StepsAll step old xs mid → step mid x (Ok tt) new → StepsAll step old (xs ++ x ∷ []) new
StepsAll-more step old xs mid x new all last = Trace-more (λ item before after. step before item (Ok tt) after) xs x old mid new all last

-- steps at items are steps at what the items stand for
pub StepsAll-map : {C A B E : Type 0} (f : A → B) (step : C → A → Result (Unit {0}) E → C → Type 0) (other : C → B → Result (Unit {0}) E → C → Type 0)
    → ((old new : C) (x : A) → step old x (Ok tt) new → other old (f x) (Ok tt) new)
    → (old : C) (xs : List A) (new : C) → StepsAll step old xs new → StepsAll other old (map f xs) new
StepsAll-map {C = C} f step other each old xs new all =
    Trace-map f (λ (coder : C). coder) (λ item before after. step before item (Ok tt) after) (λ item before after. other before item (Ok tt) after)
    (λ item before after one. each before after item one) xs old new all

-- what an iterator over a list has given is the front of the list
pub Yields-front : {S A B : Type 0} (steps : S → Option A → S → Type 0) (rest : S → List B) (view : A → B)
    → ((s t : S) (x : A) → steps s (Some x) t → rest s ≡ view x ∷ rest t)
    → (s : S) (xs : List A) (t : S) → Yields steps s xs t → rest s ≡ map view xs ++ rest t
Yields-front steps rest view each s [] t run = ap rest run
Yields-front steps rest view each s (x ∷ xs) t run =
    each s run.0 x run.1 ∙ ap (λ ys. view x ∷ ys) (Yields-front steps rest view each run.0 xs t run.2)

-- what a reversed iterator gives is what its source gives from the back
pub Yields-back : {S A : Type 0} (steps : S → Option A → S → Type 0) (s : Rev S) (xs : List A) (t : Rev S)
    → Yields (rev_steps steps) s xs t → Yields steps (rev_source s) xs (rev_source t)
Yields-back steps s [] t run = ap rev_source run
Yields-back steps s (x ∷ xs) t run = (rev_source run.0, run.1, Yields-back steps run.0 xs t run.2)
