-- How many words a step owes, and so how much room is enough.
use Rattle.std.proofs.Common.{◌≡◌, ℕ, ◌+◌, ◌-◌, ◌^◌, ◌≤◌, List, ◌++◌, length, length-append, ap, arith, lt-ltb, le-ltb, inl, inr}
use Rattle.std.proofs.lemmas.Bool.{cases_lt}
use Rattle.constriction_base.specs.Steps.{Step}
use Rattle.constriction_base.specs.declared.backends.reading.Holds as holding
use Rattle.constriction_base.specs.declared.backends.writing.WriteWords as writing
use Rattle.constriction_queue.specs.Range.{Run, cut, grown, narrowed_by}
use Rattle.constriction_queue.specs.Encoder.{Encoder, Flushes, pending_of, run_by}
use Rattle.constriction_queue.specs.Calls.{IsRefused}

-- a step moves a run by one word at most
grown_moves : (w s : ℕ) (r : Run) → (grown w s r).moves ≤ r.moves + 1
grown_moves w s r = elim (cases_lt r.range (2 ^ (s - w))) [
  | inl short ↦ rw (lt-ltb r.range (2 ^ (s - w)) short) (omega arith)
  | inr long ↦ rw (le-ltb r.range (2 ^ (s - w)) long) (omega arith)
]

-- so it owes no more words than were held, and one more
pub owed_few : {Word B : Type 0} (number : Word → ℕ) (w s : ℕ) (step : Step) (old : Encoder B) (owed : List ℕ) → Flushes number w s step old owed
    → length owed ≤ length old.held + 1
owed_few number w s step old owed owes =
    let held : List ℕ = pending_of number w owes.situation in
    let moves : length (held ++ (owed ++ old.words)) ≡ (narrowed_by w s step (run_by w s old)).moves = ap (λ (r : Run). r.moves) owes.is in
    let step_moves : (narrowed_by w s step (run_by w s old)).moves ≤ length (old.held ++ old.words) + 1 = grown_moves w s (cut step (run_by w s old)) in
    omega (arith, moves, step_moves, length-append held (owed ++ old.words), length-append owed old.words, length-append old.held old.words)

-- where a backend has room for so many, no step is refused, as over a cursor that is long enough
pub room_enough : {Word B E S : Type 0} (number : Word → ℕ) (holds : holding.Ghosts B Word S) (writes : writing.Ghosts B Word E) (w s : ℕ) (old : Encoder B) (step : Step) (e : E) (new : Encoder B)
    → length old.held + 1 ≤ writes.room old.bulk → IsRefused number holds writes w s old step e new → ⊥
room_enough number holds writes w s old step e new enough refused =
    omega (arith, enough, refused.short, owed_few number w s step old refused.owed refused.owes)
