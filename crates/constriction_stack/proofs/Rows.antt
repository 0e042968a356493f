-- The definitions compute: worked values.
use Rattle.std.proofs.Common.{◌≡◌, ℕ, ◌%◌, ◌^◌, ◌<◌, ◌≤◌, List, [], ◌∷◌, refl, inl, inr, lit<, lit≤}
use Rattle.constriction_base.specs.Steps.{Step, Trace}
use Rattle.constriction_stack.specs.Ans.{AnsState, IsNext, IsPop, IsPush, exported, filled, pop, words_after}

-- an interval of a table of 8 bits
abbrev part : ℕ → ℕ → Step
part left p = record { precision = 8; left = left; p = p }

abbrev state : ℕ → List ℕ → AnsState
state head words = record { head = head; words = words }

-- words of 8 bits and heads of 16, weights 255 and 1: symbol 1 three times, taken off again
word_moves_in : pop 8 16 (part 255 1) (state 65535 (255 ∷ [])) ≡ state 65535 []
word_moves_in = refl

second_comes_off : pop 8 16 (part 255 1) (state 65535 []) ≡ state 255 []
second_comes_off = refl

first_comes_off : pop 8 16 (part 255 1) (state 255 []) ≡ state 0 []
first_comes_off = refl

abbrev is_next : (head : ℕ) (words : List ℕ) → 255 ≤ head % 2 ^ 8 → head % 2 ^ 8 < 256 → IsNext (part 255 1) (state head words)
is_next head words from below = record { from = from; below = below }

all_come_off : Trace (IsPop 8 16) (part 255 1 ∷ part 255 1 ∷ part 255 1 ∷ []) (state 65535 (255 ∷ [])) (state 0 [])
all_come_off = (
  state 65535 [],
  (is_next 65535 (255 ∷ []) (lit≤ tt) (lit< tt), refl),
  (
    state 255 [],
    (is_next 65535 [] (lit≤ tt) (lit< tt), refl),
    (state 0 [], (is_next 255 [] (lit≤ tt) (lit< tt), refl), refl),
  ),
)

-- so each of these states is the push onto the one before: the heads 255, 65535, and 65535 over a word
abbrev first_goes_on : IsPush 8 16 (part 255 1) (state 0 []) (state 255 [])
first_goes_on = record {
  valid = record { state = record { fits = lit< tt; are_words = tt }; full = inr refl };
  holds = record { from = lit≤ tt; below = lit< tt };
  back = refl;
}

abbrev second_goes_on : IsPush 8 16 (part 255 1) (state 255 []) (state 65535 [])
second_goes_on = record {
  valid = record { state = record { fits = lit< tt; are_words = tt }; full = inr refl };
  holds = record { from = lit≤ tt; below = lit< tt };
  back = refl;
}

abbrev word_moves_out : IsPush 8 16 (part 255 1) (state 65535 []) (state 65535 (255 ∷ []))
word_moves_out = record {
  valid = record { state = record { fits = lit< tt; are_words = (lit< tt, tt) }; full = inl (lit≤ tt) };
  holds = record { from = lit≤ tt; below = lit< tt };
  back = refl;
}

word_is_written : words_after 8 16 (part 255 1) (state 65535 []) ≡ 255 ∷ []
word_is_written = refl

words_of_three : exported 8 (state 65535 (255 ∷ [])) ≡ 255 ∷ 255 ∷ 255 ∷ []
words_of_three = refl

three_of_words : filled 8 16 0 (255 ∷ 255 ∷ 255 ∷ []) ≡ state 65535 (255 ∷ [])
three_of_words = refl

-- symbol 0, whose interval begins at 0, onto nothing: nothing, and it comes off
nothing_goes_on : pop 8 16 (part 0 255) (state 0 []) ≡ state 0 []
nothing_goes_on = refl

words_of_nothing : exported 8 (state 0 []) ≡ []
words_of_nothing = refl

-- the least head without room for a weight of 255
least_without_room : pop 8 16 (part 0 255) (state 256 (0 ∷ [])) ≡ state 65280 []
least_without_room = refl

-- a state that isn't valid: a word moves in, and the push isn't what a pop undoes
of_no_valid_state : pop 8 16 (part 0 255) (state 5 (9 ∷ [])) ≡ state 1289 []
of_no_valid_state = refl
