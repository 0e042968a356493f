-- Sizes of the stack coder's states, in words and in bits.
use Rattle.std.specs.Prelude.{ℕ, ◌+◌, ◌-◌, ◌*◌, ◌^◌, ◌<◌, length}
use Rattle.std.specs.Int.Digits.{digits_of}
use Rattle.constriction_stack.specs.Ans.{AnsState, exported}

-- The number of words of a state, including the words of its head.
abbrev pub word_count : ℕ → AnsState → ℕ
word_count w x = length x.words + length (digits_of (2 ^ w) x.head)

-- The number of bits of `n` without leading zeros.
abbrev pub bit_count : ℕ → ℕ
bit_count n = length (digits_of 2 n)

-- The number of bits that carry information: the bits of the words, and the bits of the head below its leading 1.
abbrev pub valid_bit_count : ℕ → AnsState → ℕ
valid_bit_count w x = w * length x.words + (bit_count x.head - 1)

-- The number of bits of the exported words is below `2 ^ 64`, so it fits a `usize`.
abbrev pub SizesFit : ℕ → AnsState → Type 0
SizesFit w x = w * length (exported w x) < 2 ^ 64
