-- The lists that an iterator gives, and those that a backend over it can give.
use Rattle.std.proofs.Common.{true, false, List, [], ◌∷◌, Option, Some, Result, Ok, Err, refl, sym}
use Rattle.std.specs.Iterator.{Drains}
use Rattle.constriction_base.specs.Iterators.{FusedRead, CanGive}

-- what the iterator gives, the backend can give
pub gives_drained : {S W E : Type 0} (steps : S → Option (Result W E) → S → Type 0) (s : S) (rs : List (Result W E)) → Drains steps s rs → CanGive (FusedRead steps) (s, false) rs
gives_drained steps s [] (u, (t, e, last)) = rw e ((u, true), (last, refl))
gives_drained steps s (Ok w ∷ rs) (u, (t, (j, step, more), last)) = ((j, false), (step, refl), gives_drained steps j rs (u, (t, more, last)))
gives_drained steps s (Err e ∷ rs) (u, (t, (j, step, more), last)) = ((j, false), (step, refl), gives_drained steps j rs (u, (t, more, last)))

-- an item that the iterator gives before others
pub drains_on : {S A : Type 0} (steps : S → Option A → S → Type 0) (s j : S) (x : A) (xs : List A) → steps s (Some x) j → Drains steps j xs → Drains steps s (x ∷ xs)
drains_on steps s j x xs step (u, (t, more, last)) = (u, (t, (j, step, more), last))

-- what the backend can give, the iterator gives
pub drained_given : {S W E : Type 0} (steps : S → Option (Result W E) → S → Type 0) (s : S) (rs : List (Result W E)) → CanGive (FusedRead steps) (s, false) rs → Drains steps s rs
drained_given steps s [] ((u, done), (step, ends)) = (u, (s, refl, step))
drained_given {S} {W} {E} steps s (Ok w ∷ rs) ((j, done), (step, e), more) =
    let on : CanGive (FusedRead steps) (j, false) rs = rw (sym e) more in
    drains_on steps s j (Ok w) rs step (drained_given steps j rs on)
drained_given {S} {W} {E} steps s (Err f ∷ rs) ((j, done), (step, e), more) =
    let on : CanGive (FusedRead steps) (j, false) rs = rw (sym e) more in
    drains_on steps s j (Err f) rs step (drained_given steps j rs on)
