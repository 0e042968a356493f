-- Lists of steps that are undone.
use Rattle.std.proofs.Common.{List, [], ◌∷◌, sym, subst}
use Rattle.std.specs.Prelude.{reverse}
use Rattle.constriction_base.proofs.Trace.{Trace-turned}
use Rattle.std.specs.List.{AllByRecursion}
use Rattle.constriction_base.specs.Steps.{Trace}

-- steps that are undone, the last first, and the state that they lead to
pub all_undone : {E S : Type 0} (allowed : E → Type 0) (valid : S → Type 0) (does undoes : E → S → S → Type 0)
    → ((e : E) (old new : S) → allowed e → valid old → does e old new → undoes e new old × valid new)
    → (es : List E) (old new : S) → AllByRecursion allowed es → valid old → Trace does es old new → Trace undoes (reverse es) new old × valid new
all_undone {S = S} allowed valid does undoes law [] old new all v h = (sym h, subst valid (sym h) v)
all_undone allowed valid does undoes law (e ∷ es) old new all v h =
    let first = law e old h.0 all.0 v h.1 in
    let rest = all_undone allowed valid does undoes law es h.0 new all.1 first.1 h.2 in
    (Trace-turned undoes e es new h.0 old rest.0 first.0, rest.1)

-- what asks for nothing holds of all
pub all_free : {A : Type 0} (xs : List A) → AllByRecursion (λ x. Unit {0}) xs
all_free [] = tt
all_free (x ∷ xs) = (tt, all_free xs)
