-- Worked values of the definitions, by computing: words of 8 bits and numbers of 16, where no other sizes stand. Words are
-- listed in the order in which they are read.
use Rattle.std.specs.Prelude.{◌≡◌, [], ◌∷◌, true, false}
use Rattle.std.proofs.Common.{refl, arith, inl, inr}
use Rattle.constriction_base.specs.Steps.{Step}
use Rattle.constriction_chain.specs.Walk.{IsQuantile}
use Rattle.constriction_chain.specs.Chain.{IsDecode, IsPrecisionChange, least}
use Rattle.constriction_chain.specs.Words.{remainder_words}
use Rattle.constriction_chain.specs.Imports.{AreBinaryWords, compressed_words}
use Rattle.constriction_chain.proofs.Chains.{state}

-- ---- the precision is a word's bits: each word is a quantile
-- the second of the weights 16 and 240
abbrev second : Step
second = record { precision = 8; left = 16; p = 240 }

imported : compressed_words 8 (state 1 30 (20 ∷ 10 ∷ []) []) ≡ 30 ∷ 20 ∷ 10 ∷ []
imported = refl

-- the number 7204 is past the window's end, and its low word moves out
whole_word : IsDecode 8 16 second (state 1 30 (20 ∷ 10 ∷ []) []) (state 1 28 (10 ∷ []) (36 ∷ []))
whole_word = record {
  t = 4;
  within = omega arith;
  walk = record {
    bits = [];
    bits' = [];
    head = refl;
    head' = refl;
    taken = inl (record {
      others = [];
      answer = false ∷ false ∷ false ∷ true ∷ false ∷ true ∷ false ∷ false ∷ [];
      few = inl refl;
      others_length = refl;
      answer_length = refl;
      word = refl;
      left_over = refl;
      is = refl;
    });
  };
  gain = inr (omega arith, record { word = 36; fits = omega arith; taken = refl; grown = refl });
}

remainders : remainder_words 8 (state 1 28 (10 ∷ []) (36 ∷ [])) ≡ 1 ∷ 28 ∷ 36 ∷ []
remainders = refl

-- in binary form a 1 is in the window already, so that no word moves in
binary : AreBinaryWords 8 (30 ∷ 20 ∷ 10 ∷ []) (state 1 1 (30 ∷ 20 ∷ 10 ∷ []) [])
binary = (0, record { from = omega arith; below = omega arith }, refl)

binary_decoded : IsDecode 8 16 second (state 1 1 (30 ∷ 20 ∷ 10 ∷ []) []) (state 1 254 (20 ∷ 10 ∷ []) [])
binary_decoded = record {
  t = 14;
  within = omega arith;
  walk = record {
    bits = [];
    bits' = [];
    head = refl;
    head' = refl;
    taken = inl (record {
      others = [];
      answer = false ∷ false ∷ false ∷ true ∷ true ∷ true ∷ true ∷ false ∷ [];
      few = inl refl;
      others_length = refl;
      answer_length = refl;
      word = refl;
      left_over = refl;
      is = refl;
    });
  };
  gain = inl (omega arith, refl, refl);
}

-- ---- four bits at a time
-- the second of the weights 5 and 11
abbrev larger : Step
larger = record { precision = 4; left = 5; p = 11 }

window : least 8 16 4 ≡ 16
window = refl

-- the low half of the word 171 is the quantile, 11, and its high half is left over
half_word : IsDecode 8 16 larger (state 1 18 (171 ∷ []) []) (state 26 204 [] [])
half_word = record {
  t = 6;
  within = omega arith;
  walk = record {
    bits = [];
    bits' = true ∷ false ∷ true ∷ false ∷ [];
    head = refl;
    head' = refl;
    taken = inl (record {
      others = true ∷ false ∷ true ∷ false ∷ [];
      answer = true ∷ false ∷ true ∷ true ∷ [];
      few = inr (omega arith);
      others_length = refl;
      answer_length = refl;
      word = refl;
      left_over = refl;
      is = refl;
    });
  };
  gain = inl (omega arith, refl, refl);
}

-- and is the next quantile, 10, whatever the model before was
other_half : IsQuantile 8 4 26 [] 10 1 []
other_half = record {
  bits = true ∷ false ∷ true ∷ false ∷ [];
  bits' = [];
  head = refl;
  head' = refl;
  taken = inr (record {
    answer = true ∷ false ∷ true ∷ false ∷ [];
    within_word = omega arith;
    answer_length = refl;
    left_over = refl;
    words = refl;
    is = refl;
  });
}

second_half : IsDecode 8 16 larger (state 26 204 [] []) (state 1 2249 [] [])
second_half = record { t = 5; within = omega arith; walk = other_half; gain = inl (omega arith, refl, refl) }

-- ---- changes of the precision
-- from 4 to 8 a word moves out, and from 8 to 4 it moves in again
increased : IsPrecisionChange 8 (least 8 16 8) (state 1 2249 [] []) (state 1 8 [] (201 ∷ []))
increased = record {
  h = refl;
  compressed = refl;
  window = record { from = omega arith; below = omega arith };
  move = inr (inl (record { word = 201; fits = omega arith; taken = refl; grown = refl }));
}

decreased : IsPrecisionChange 8 (least 8 16 4) (state 1 8 [] (201 ∷ [])) (state 1 2249 [] [])
decreased = record {
  h = refl;
  compressed = refl;
  window = record { from = omega arith; below = omega arith };
  move = inr (inr (record { word = 201; fits = omega arith; taken = refl; grown = refl }));
}

-- a number in both windows stays
increased_alone : IsPrecisionChange 8 (least 8 16 8) (state 1 18 (171 ∷ []) []) (state 1 18 (171 ∷ []) [])
increased_alone = record {
  h = refl;
  compressed = refl;
  window = record { from = omega arith; below = omega arith };
  move = inl (refl, refl);
}

-- ---- words of 32 bits, numbers of 64 and 24 bits of precision
-- the high byte of the word 0x11223344 is left over
default_quantile : IsQuantile 32 24 1 (287454020 ∷ []) 2241348 273 []
default_quantile = record {
  bits = [];
  bits' = false ∷ false ∷ false ∷ true ∷ false ∷ false ∷ false ∷ true ∷ [];
  head = refl;
  head' = refl;
  taken = inl (record {
    others = false ∷ false ∷ false ∷ true ∷ false ∷ false ∷ false ∷ true ∷ [];
    answer = false ∷ false ∷ true ∷ false ∷ false ∷ false ∷ true ∷ false ∷ false ∷ false ∷ true ∷ true ∷ false ∷ false ∷ true ∷ true ∷ false ∷ true ∷ false ∷ false ∷ false ∷ true ∷ false ∷ false ∷ [];
    few = inr (omega arith);
    others_length = refl;
    answer_length = refl;
    word = refl;
    left_over = refl;
    is = refl;
  });
}

-- the first of two equal weights
default_decode : IsDecode 32 64 (record { precision = 24; left = 0; p = 8388608 }) (state 1 256 (287454020 ∷ []) []) (state 273 2149724996 [] [])
default_decode = record { t = 2241348; within = omega arith; walk = default_quantile; gain = inl (omega arith, refl, refl) }
