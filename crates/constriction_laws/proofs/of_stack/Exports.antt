-- The words that a state exports.
use Rattle.std.proofs.Common.{ℕ, ◌^◌}
use Rattle.std.specs.Int.Digits.{digits_of}
use Rattle.std.proofs.lemmas.Int.Digits.{all_below_base_digits_of}
use Rattle.constriction_base.specs.Steps.{IsSizes, AreWords}
use Rattle.constriction_stack.specs.Ans.{AnsState, IsNormalized, exported}
use Rattle.constriction_base.specs.Digits.{fixed_digits}
use Rattle.constriction_stack.specs.Binary.{binary_words}
use Rattle.constriction_base.proofs.Sizes.{facts}
use Rattle.constriction_base.proofs.WordLists.{words-append, words-fixed_digits}

pub exported_words : (w s : ℕ) (state : AnsState) → IsSizes w s → IsNormalized w s state → AreWords w (exported w state)
exported_words w s state z v =
    words-append w (digits_of (2 ^ w) state.head) state.words (all_below_base_digits_of (2 ^ w) state.head (facts w s z).base) v.state.are_words

pub binary_words_fit : (w s m : ℕ) (state : AnsState) → IsNormalized w s state → AreWords w (binary_words w m state)
binary_words_fit w s m state v = words-append w (fixed_digits (2 ^ w) m state.head) state.words (words-fixed_digits w m state.head) v.state.are_words
