-- Refusals in their order: what a check that went well or was refused says of the call that made it.
use Rattle.std.proofs.Common.{◌≡◌, ◌⊎◌, ℕ, List, length, replicate, Ok, Err, Result, inl, inr}
use Rattle.std.proofs.lemmas.List.{length-replicate}
use Rattle.constriction_inputs.specs.Coded.{AreFit, AsksFit, Coded}
use Rattle.constriction_inputs.specs.Refusals.{Asks, NoMemoryOrSpace, NoRefusal, Otherwise}
use Rattle.constriction_inputs.specs.declared.refusal.Refusal.{Refusal}
use Rattle.constriction_inputs.specs.declared.refusal.Refusal.TheVariants.{NoMemory, NoSpace}

-- what a success says
pub asked_ok : {T A B : Type 0} {refusal : Refusal} {x : T} → ((A → ⊥) × (◌≡◌ {A = Result T Refusal} (Ok x) (Err refusal))) ⊎ (A × B) → A × B
asked_ok (inl fails) = (let never = fails.1 in absurd cc)
asked_ok (inr goes) = goes

-- the same of three
pub three_ok : {T A B C D : Type 0} {a b c : Refusal} {x : T} → Asks a A (Asks b B (Asks c C (λ answer. D))) (Ok x) → A × B × C
three_ok asks =
    let one = asked_ok asks in
    let two = asked_ok one.1 in
    (one.0, two.0, (asked_ok two.1).0)

module _ (precision : ℕ) (coded : Coded) where
  -- a check that went well
  pub fit_ok : {T A : Type 0} {x : T} → AsksFit precision coded (λ answer. A) (Ok x) → AreFit precision coded
  fit_ok asks = three_ok asks

  -- what comes behind one that went well
  pub fit_then : {T A : Type 0} {answer : Result T Refusal} → AreFit precision coded → A → AsksFit precision coded (λ answer. A) answer
  fit_then fit next = inr (fit.0, inr (fit.1, inr (fit.2, next)))

  -- a check that was refused is so for each call
  pub fit_refused : {T A : Type 0} (e : Refusal) → AsksFit {T = T} precision coded (Otherwise NoRefusal) (Err e) → AsksFit {T = T} precision coded (λ answer. A) (Err e)
  fit_refused e asks = elim asks [
    | inl lengths ↦ inl lengths
    | inr (l, inl intervals) ↦ inr (l, inl intervals)
    | inr (l, inr (i, inl weights)) ↦ inr (l, inr (i, inl weights))
    | inr (l, inr (i, inr (w, never))) ↦ absurd never
  ]

-- the arguments fit some list of so many symbols, if they fit all
pub fit_some : (precision : ℕ) (coded : List ℕ → Coded) (count : ℕ) → ((ns : List ℕ) → length ns ≡ count → AreFit precision (coded ns)) → (symbols : List ℕ) × (length symbols ≡ count) × AreFit precision (coded symbols)
fit_some precision coded count fit =
    let many : length (replicate count 0) ≡ count = length-replicate count 0 in
    (replicate count 0, many, fit (replicate count 0) many)

-- want of room, or of memory
pub room_of : {B : Type 0} (needs : ℕ → Type 0) (e : Refusal) (n : ℕ) → (e ≡ NoSpace n) ⊎ ((e ≡ NoMemory) × B) → needs n → NoMemoryOrSpace needs e
room_of needs e n (inl is) needed = rw is needed
room_of needs e n (inr is) needed = rw is.0 tt
