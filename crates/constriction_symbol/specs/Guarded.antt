-- The bit coder that a guard borrows, and the number of words that the guard wrote.
use Rattle.std.specs.Prelude.{ℕ, Vec}
use Rattle.std.specs.Borrow.{MutBor}
use Rattle.constriction_symbol.specs.declared.coder.SymbolCoder.{SymbolCoder}
use Rattle.constriction_symbol.specs.declared.coder.guard.CoderGuard.{CoderGuard}

-- The coder that the guard borrows.
abbrev pub lender : {Word S A WordNonZero : Type 0}
    → CoderGuard Word S A WordNonZero → MutBor (SymbolCoder Word S (Vec Word A) WordNonZero)
lender g = g.inner

-- The number of words that the guard wrote onto the coder's backend.
abbrev pub written : {Word S A WordNonZero : Type 0} → CoderGuard Word S A WordNonZero → ℕ
written g = g.count

-- The guard's reference to the coder at the end of the guard's drop: the first of the guard's two fields.
abbrev pub lent_back : {A B : Type 0} → A × B → A
lent_back exit = exit.0
