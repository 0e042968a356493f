-- The interval of a range coder (its lower end and its length), and the position of a run.
use Rattle.std.specs.Prelude.{ℕ, ◌≡◌, ◌^◌, ◌%◌}
use Rattle.constriction_queue.specs.declared.state.RangeCoderState.{RangeCoderState}
use Rattle.constriction_queue.specs.Range.{Run}

-- The lower end of the interval.
abbrev pub lower_of : {Word State WordNonZero StateNonZero : Type 0} {word_bits : _} {word : _} {state_bits : _} {state : _} → RangeCoderState Word State WordNonZero StateNonZero word_bits word state_bits state → ℕ
lower_of {state = state} interval = state.number interval.lower

-- The length of the interval.
abbrev pub range_of : {Word State WordNonZero StateNonZero : Type 0} {word_bits : _} {word : _} {state_bits : _} {state : _} → RangeCoderState Word State WordNonZero StateNonZero word_bits word state_bits state → ℕ
range_of {state = state} interval = state.number interval.range

-- The position of a run: the number of words moved out, and the interval, with its lower end modulo `2 ^ s`.
pub record IsPosition (s : ℕ) (r : Run) (place lower range : ℕ) : Type 0 where
  pub place_is : place ≡ r.moves
  pub lower_is : lower ≡ r.low % 2 ^ s
  pub range_is : range ≡ r.range
