-- Clauses on answers that are known to be one or the other.
use Rattle.std.proofs.Common.{Result, Ok, Err, ◌≡◌, ℕ, ◌<◌, ◌≤◌, ◌↔◌, Option, None, Some, Bool, true, false, IsTrue, inl, inr, rules, arith}
use Rattle.std.proofs.lemmas.Bool.{cases_lt, false≢true}
use Rattle.std.specs.Prelude.{IsErr, IfErr, IfOk, MatchResult, OnOk, MatchOption, IsSome}

-- an error has made nothing
pub none_made : {T E : Type 0} (P : T → Type 0) (answer : Result T E) → IsErr answer → IfOk answer P
none_made P (Ok x) h = absurd cc
none_made P (Err e) h = tt

-- what holds anyway holds after a success
pub either_way : {T E P : Type 0} (answer : Result T E) → P → OnOk answer P
either_way (Ok x) h = h
either_way (Err e) h = tt

-- each outcome tells more
pub mapped : {T E : Type 0} (P P' : T → Type 0) (Q Q' : E → Type 0) (answer : Result T E) → ((x : T) → P x → P' x) → ((e : E) → Q e → Q' e)
    → MatchResult answer P Q → MatchResult answer P' Q'
mapped P P' Q Q' (Ok x) f g m = f x m
mapped P P' Q Q' (Err e) f g m = g e m

-- an error tells more
pub refused : {T E : Type 0} (P : T → Type 0) (Q Q' : E → Type 0) (answer : Result T E) → ((e : E) → Q e → Q' e) → MatchResult answer P Q → IfErr answer Q'
refused P Q Q' (Ok x) f m = tt
refused P Q Q' (Err e) f m = f e m

-- a number above 0 has its form above 0
pub some_above_zero : {N : Type 0} (o : Option N) (number : N → ℕ) (v : ℕ) → 0 < v → MatchOption o (v ≡ 0) (λ n. number n ≡ v) → IsSome o
some_above_zero None number v some m = absurd (omega arith)
some_above_zero (Some n) number v some m = search rules

-- a number isn't below another, so it is the same or above
pub not_below : (test : Bool) (number other : ℕ) → (IsTrue test ↔ (number < other)) → test ≡ false → other ≤ number
not_below true number other is h = absurd cc
not_below false number other is h = elim (cases_lt number other) [ inl less ↦ absurd (false≢true (is.1 less)) | inr more ↦ more ]
