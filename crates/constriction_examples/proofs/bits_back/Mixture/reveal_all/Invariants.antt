use Rattle.std.proofs.Common.{◌≡◌, ℕ, List, length, reverse}
use Rattle.constriction.specs.stack.Ans.{AnsState, IsNormalized}
use Rattle.constriction.specs.Steps.{Trace}
use Rattle.constriction_examples.specs.Hiding.{Hides}
use Rattle.constriction_examples.proofs.Runs.{Revealed}
use Rattle.constriction_examples.proofs.bits_back.Mixture.reveal_all.Given as goal

-- so many of the symbols came back, and the others are hidden still
abbrev pub invariant-loop : goal.invariant-loop
invariant-loop l = record {
  counted : length l.symbols.items ≡ l.counter;
  revealed : (hidden : List ℕ) (before : AnsState) → length hidden ≡ l.count → IsNormalized 32 64 before
      → Trace (Hides l.self) hidden before l.fn.coder.state → Revealed l.self (reverse hidden) l.symbols.items before l.coder.state;
}
