-- The stack coder that a guard borrows, and the number of words that the guard wrote.
use Rattle.std.specs.Prelude.{ℕ}
use Rattle.std.specs.Borrow.{MutBor}
use Rattle.constriction_stack.specs.declared.coder.AnsCoder.{AnsCoder}
use Rattle.constriction_stack.specs.declared.coder.guard.CoderGuard.{CoderGuard}

-- The coder that a guard borrows.
abbrev pub lender : {Word State Backend : Type 0} {sealed : ℕ} {WordNonZero StateNonZero WriteError ReadError : Type 0}
    → CoderGuard Word State Backend sealed WordNonZero StateNonZero WriteError ReadError → MutBor (AnsCoder Word State Backend WordNonZero StateNonZero)
lender g = g.inner

-- The number of words that a guard wrote onto the coder's backend.
abbrev pub written : {Word State Backend : Type 0} {sealed : ℕ} {WordNonZero StateNonZero WriteError ReadError : Type 0}
    → CoderGuard Word State Backend sealed WordNonZero StateNonZero WriteError ReadError → ℕ
written g = g.count

-- The borrowed coder after the guard's drop: the first of the fields that the drop gives back.
abbrev pub lent_back : {A B : Type 0} → A × B → A
lent_back exit = exit.0
