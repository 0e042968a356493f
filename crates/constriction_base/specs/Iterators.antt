-- An iterator over `Result`s of words as a backend: each read takes the next item.
use Rattle.std.specs.Prelude.{◌≡◌, Bool, true, false, List, [], ◌∷◌, Option, None, Some, Result, Ok, Err, MatchBool, MatchOption}

-- The iterator's item that makes a read return this answer, or `None` if the iterator has ended.
abbrev pub item_of_answer : {W E : Type 0} → Result (Option W) E → Option (Result W E)
item_of_answer (Ok None) = None
item_of_answer (Ok (Some w)) = Some (Ok w)
item_of_answer (Err e) = Some (Err e)

-- A call of `next` on a fused iterator: after its first `None`, it returns only `None`. The state is the iterator and
-- whether it has ended.
abbrev pub FusedStep : {S A : Type 0} → (S → Option A → S → Type 0) → S × Bool → Option A → S × Bool → Type 0
FusedStep steps old r new = MatchBool old.1 (r ≡ None) (steps old.0 r new.0) × MatchOption r (new.1 ≡ true) (λ _. new.1 ≡ false)

-- A read returns the next item of the fused iterator, or `Ok(None)` if the iterator has ended.
abbrev pub FusedRead : {S W E : Type 0} → (S → Option (Result W E) → S → Type 0) → S × Bool → Result (Option W) E → S × Bool → Type 0
FusedRead steps old answer new = FusedStep steps old (item_of_answer answer) new

-- The answer of a read where the iterator gives this result.
abbrev pub answer_of : {W E : Type 0} → Result W E → Result (Option W) E
answer_of (Ok w) = Ok (Some w)
answer_of (Err e) = Err e

-- The reads of a backend can give these results in order, and then report that no word is left.
abbrev pub CanGive : {B W E : Type 0} → (B → Result (Option W) E → B → Type 0) → B → List (Result W E) → Type 0
CanGive {B} reads old [] = (new : B) × reads old (Ok None) new
CanGive {B} reads old (r ∷ rs) = (new : B) × reads old (answer_of r) new × CanGive reads new rs
