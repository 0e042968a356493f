-- What is true of every encoder.
use Rattle.std.proofs.Common.{◌≡◌, ℕ, ◌+◌, ◌-◌, ◌*◌, ◌%◌, ◌^◌, ◌<◌, ◌≤◌, List, [], ◌++◌, append-nil, Option, None, Some, length, length-append, map, refl, sym, ap, ◌∙◌, arith, mod-eq_of_lt}
use Rattle.std.proofs.lemmas.List.{length-map}
use native.Mathlib.Nat.{add-mul-mod_self_right}
use Rattle.std.specs.Int.NonZero.{non_zero_usize_get}
use Rattle.constriction_base.specs.Steps.{IsSizes, AreWords}
use Rattle.constriction_base.specs.declared.backends.reading.Holds as holding
use Rattle.constriction_queue.specs.declared.situation.EncoderSituation.{EncoderSituation}
use Rattle.constriction_queue.specs.declared.situation.ReleasedWords.{ReleasedWords}
use Rattle.constriction_queue.specs.Encoder.{IsEncoder, PartsFit, encoder_of, number_of, released_of, run_of, word_of}
use Rattle.constriction_queue.proofs.Seals.{words_held_fit}

-- the encoder of parts that fit
pub is_encoder : {Word B S : Type 0} (number : Word → ℕ) (holds : holding.Ghosts B Word S) (w s lower range : ℕ) (bulk : B) (situation : EncoderSituation Word)
    → IsSizes w s → PartsFit number w s situation lower range → 2 ^ (s - w) ≤ range → lower < 2 ^ s → range < 2 ^ s
    → IsEncoder number holds w s (encoder_of number holds w lower range bulk situation)
is_encoder number holds w s lower range bulk situation sizes fits least lower_fits range_fits =
    record { sizes = sizes; words_are = refl; situation = situation; held_is = refl; fits = fits; least = least; lower_fits = lower_fits; range_fits = range_fits }

-- words that were held are words
released_are_words : {Word : Type 0} (number : Word → ℕ) (w : ℕ) (law : (x : Word) → number x < 2 ^ w) (released : Option (ReleasedWords Word)) (ws : List ℕ)
    → AreWords w ws → AreWords w (released_of number released ++ ws)
released_are_words number w law None ws all = all
released_are_words number w law (Some h) ws all = words_held_fit w (number h.others) (non_zero_usize_get h.count) (number h.first) ws (law h.others) (law h.first) all

-- and so are those that a step owes
pub owed_are_words : {Word : Type 0} (number : Word → ℕ) (w : ℕ) (law : (x : Word) → number x < 2 ^ w) (released : Option (ReleasedWords Word)) (top : Option Word)
    → AreWords w (word_of number top ++ released_of number released)
owed_are_words number w law released None = rw (← append-nil (released_of number released)) (released_are_words number w law released [] tt)
owed_are_words number w law released (Some x) = (law x, rw (← append-nil (released_of number released)) (released_are_words number w law released [] tt))

-- the low end of an encoder's run, as its state tells it
pub low_is : (w s lower range : ℕ) (words : List ℕ) → lower < 2 ^ s → lower ≡ (run_of w s words lower range).low % 2 ^ s
low_is w s lower range words fits =
    let same : number_of (2 ^ w) words * 2 ^ s + lower ≡ lower + number_of (2 ^ w) words * 2 ^ s = omega arith in
    sym (ap (λ n. n % 2 ^ s) same ∙ add-mul-mod_self_right lower (number_of (2 ^ w) words) (2 ^ s) ∙ mod-eq_of_lt fits)

-- how many words were written and are held
pub moves_are : {Word : Type 0} (number : Word → ℕ) (held : List ℕ) (words : List Word) → length (held ++ map number words) ≡ length words + length held
moves_are number held words = omega (arith, length-append held (map number words), length-map words number)
