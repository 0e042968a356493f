-- Functions that list the words left in a backend or in an iterator.
use Rattle.std.specs.Prelude.{◌≡◌, List, [], ◌∷◌, Bool, Option, None, Some, Result, Ok, Err, cond}
use Rattle.constriction_base.specs.Backends.{Reads}

-- The function lists the words of each state of a backend: each read takes the first word of the list.
abbrev pub ListsWords : {W E B : Type 0} → (B → Result (Option W) E → B → Type 0) → (B → List W) → Type 0
ListsWords {W} {E} {B} reads words = (old new : B) (answer : Result (Option W) E) → reads old answer new → Reads (words old) answer (words new)

-- The next item of an iterator over a list of words: the first word, the end of an empty list, or an error. An error
-- leaves the list unchanged.
abbrev pub YieldsWord : {W E : Type 0} → List W → Option (Result W E) → List W → Type 0
YieldsWord old None new = old ≡ []
YieldsWord old (Some (Ok word)) new = old ≡ word ∷ new
YieldsWord old (Some (Err e)) new = new ≡ old

-- The function lists the words that each state of an iterator will return.
abbrev pub ListsItems : {I W E : Type 0} → (I → Option (Result W E) → I → Type 0) → (I → List W) → Type 0
ListsItems {I} {W} {E} steps words = (old new : I) (item : Option (Result W E)) → steps old item new → YieldsWord (words old) item (words new)

-- The words left of an iterator, or none if it has ended.
abbrev pub words_left : {I W : Type 0} → (I → List W) → I × Bool → List W
words_left words state = cond state.1 [] (words state.0)
