-- What lists of decodes and iterators over slices gave, for any coder.
use Rattle.std.proofs.Common.{◌≡◌, ℕ, List, [], ◌∷◌, ◌++◌, Result, Ok, Err, length, sym, ap, subst}
use Rattle.std.specs.Prelude.{drop, IfOk}
use Rattle.std.specs.List.{zip}
use Rattle.constriction_base.specs.Steps.{Step, Trace}
use Rattle.constriction_base.proofs.Trace.{Trace-more}
use Rattle.constriction_stream.specs.Symbols.{DecodesSymbol, DecodesByModel}

-- ---- any decoder

abbrev pub GavePairs : {C S M E : Type 0} → (C → Step → Result (Unit {0}) E → C → Type 0) → (C → E → C → Type 0) → ℕ → (M → List (S × ℕ × ℕ)) → List (S × M) → C → C → Type 0
GavePairs decodes halts precision table = Trace (λ pair old new. DecodesByModel decodes halts precision table old pair.1 (Ok pair.0) new)

-- the same where each has a model of its own
pub zip_more : {S M : Type 0} (xs : List S) (ms : List M) (x : S) (m : M) (rest : List M) → drop (length xs) ms ≡ m ∷ rest → zip (xs ++ x ∷ []) ms ≡ zip xs ms ++ (x, m) ∷ []
zip_more [] [] x m rest is = absurd cc
zip_more {S} {M} [] (n ∷ ms) x m rest is = (let first : n ≡ m = cc in ap (λ (n : M). (x, n) ∷ []) first)
zip_more (y ∷ xs) [] x m rest is = absurd cc
zip_more {S} {M} (y ∷ xs) (n ∷ ms) x m rest is = ap (λ (ps : List (S × M)). (y, n) ∷ ps) (zip_more xs ms x m rest is)

pub rest_after : {S M : Type 0} (ms : List M) (xs : List S) (x : S) (rest : List M) (m : M) → drop (length xs) ms ≡ m ∷ rest → rest ≡ drop (length (xs ++ x ∷ [])) ms
rest_after [] [] x rest m is = absurd cc
rest_after (n ∷ ms) [] x rest m is = cc
rest_after [] (y ∷ xs) x rest m is = absurd cc
rest_after (n ∷ ms) (y ∷ xs) x rest m is = rest_after ms xs x rest m is

pub pairs_more : {C S M E : Type 0} (decodes : C → Step → Result (Unit {0}) E → C → Type 0) (halts : C → E → C → Type 0) (precision : ℕ) (table : M → List (S × ℕ × ℕ)) (ms : List M)
    (old : C) (xs : List S) (mid : C) (x : S) (m : M) (rest : List M) (answer : Result S E) (new : C)
    → GavePairs decodes halts precision table (zip xs ms) old mid → drop (length xs) ms ≡ m ∷ rest → answer ≡ Ok x → DecodesSymbol decodes halts precision (table m) mid answer new
    → GavePairs decodes halts precision table (zip (xs ++ x ∷ []) ms) old new
pairs_more {C} {S} {M} {E} decodes halts precision table ms old xs mid x m rest answer new all next given step =
    let one : DecodesSymbol decodes halts precision (table m) mid (Ok x) new = subst (λ (r : Result S E). DecodesSymbol decodes halts precision (table m) mid r new) given step in
    subst (λ (ps : List (S × M)). GavePairs decodes halts precision table ps old new) (sym (zip_more xs ms x m rest next))
    (Trace-more (λ (pair : S × M) (old new : C). DecodesByModel decodes halts precision table old pair.1 (Ok pair.0) new) (zip xs ms) (x, m) old mid new all one)

-- ---- answers that may be missing

-- ---- answers that may be errors
pub ok_weaker : {X E : Type 0} (r : Result X E) {P Q : X → Type 0} → IfOk r P → ((x : X) → P x → Q x) → IfOk r Q
ok_weaker (Ok x) h k = k x h
ok_weaker (Err e) h k = tt

pub ok_both : {X E : Type 0} (r : Result X E) {P Q R : X → Type 0} → IfOk r P → IfOk r Q → ((x : X) → P x → Q x → R x) → IfOk r R
ok_both (Ok x) h i k = k x h i
ok_both (Err e) h i k = tt

-- ---- words whose numbers are below two to their bits
