-- Positions of the stack coder, and the state after seeking to a position.
use Rattle.std.specs.Prelude.{◌≡◌, ℕ, ◌-◌, List, ◌++◌, length, drop}
use Rattle.constriction_stack.specs.Ans.{AnsState}

-- A position: the number of words below the head, and the head.
pub record AnsPosition : Type 0 where
  pub held : ℕ
  pub head : ℕ

abbrev pub position_of : AnsState → AnsPosition
position_of x = record { held = length x.words; head = x.head }

-- The state after seeking to a position: the head of the position, above the `held` lowest words of the stack.
abbrev pub sought : AnsPosition → AnsState → AnsState
sought position x = record { head = position.head; words = drop (length x.words - position.held) x.words }

-- The new state has all words of the old state, and any number of further words above them.
abbrev pub Grows : AnsState → AnsState → Type 0
Grows old new = (more : List ℕ) × (new.words ≡ more ++ old.words)
