-- Worked values: the definitions of binary forms, positions and sizes compute.
use Rattle.std.proofs.Common.{◌≡◌, [], ◌∷◌, refl, arith, lit<, lit≤}
use Rattle.std.proofs.lemmas.Int.Digits.{length-digits_of_step}
use Rattle.constriction_stack.specs.Ans.{AnsState}
use Rattle.constriction_stack.specs.Binary.{binary_state, binary_words}
use Rattle.constriction_stack.specs.Positions.{sought}
use Rattle.constriction_stack.specs.Sizes.{word_count, valid_bit_count}
use Rattle.constriction_stack.proofs.SizesCounted.{bit_count_is, valid_bits_of_binary}

-- the words 5 and, above it, 0: the zero fills the head below the leading one
zero_at_the_top : AnsState
zero_at_the_top = record { head = 4294967296; words = 5 ∷ [] }

zero_is_read : binary_state 32 64 (0 ∷ 5 ∷ []) ≡ zero_at_the_top
unfolding zero_at_the_top
zero_is_read = refl

zero_is_written : binary_words 32 1 zero_at_the_top ≡ 0 ∷ 5 ∷ []
unfolding zero_at_the_top
zero_is_written = refl

zero_is_counted : valid_bit_count 32 zero_at_the_top ≡ 64
unfolding zero_at_the_top
zero_is_counted = valid_bits_of_binary 32 1 zero_at_the_top record { from = lit≤ tt; below = lit< tt }

-- the word 255 below the head 65535
word_moved_out : AnsState
word_moved_out = record { head = 65535; words = 255 ∷ [] }

words_are_three : word_count 8 word_moved_out ≡ 3
unfolding word_moved_out
words_are_three = omega (arith, length-digits_of_step 256 65535 (lit≤ tt) (lit< tt), length-digits_of_step 256 255 (lit≤ tt) (lit< tt))

bits_are_23 : valid_bit_count 8 word_moved_out ≡ 23
unfolding word_moved_out
bits_are_23 = omega (arith, bit_count_is 16 65535 (lit< tt) (lit≤ tt))

-- the words 1, 2 and 3 below the head 1284
three_below : AnsState
three_below = record { head = 1284; words = 3 ∷ 2 ∷ 1 ∷ [] }

one_is_left : sought (record { held = 1; head = 7 }) three_below ≡ record { head = 7; words = 1 ∷ [] }
unfolding three_below
one_is_left = refl
