-- The run of any encoder is an interval, whatever words were written before; and what it encodes has entries.
use Rattle.std.proofs.Common.{ℕ, ◌+◌, ◌-◌, ◌*◌, ◌^◌, ◌<◌, ◌≤◌, List, ◌++◌, length}
use Rattle.std.proofs.Common.{arith, mul-le-mul_right, pow_pos}
use Rattle.std.specs.Int.NonZero.{non_zero_usize_get}
use Rattle.constriction_base.specs.declared.backends.reading.Holds as holding
use Rattle.constriction_base.specs.Steps.{AreWords}
use Rattle.constriction_queue.specs.declared.situation.EncoderSituation.{EncoderSituation}
use Rattle.constriction_queue.specs.declared.situation.EncoderSituation.TheVariants.{Normal, Inverted}
use Rattle.constriction_queue.specs.Encoder.{Encoder, IsEncoder, PartsFit, pending_of, number_of, run_by, repeated_words}
use Rattle.constriction_queue.specs.Range.{IsInterval}
use Rattle.constriction_queue.proofs.Below.{number_below}
use Rattle.constriction_queue.proofs.Carry.{carry_held, length-held}
use Rattle.constriction_queue.proofs.Seals.{words_held_fit, words_of_numbers}

-- the interval lies below the next number of as many words; where words are held, below the one that a carry makes
inside_by : {Word : Type 0} (number : Word → ℕ) (w s lower range : ℕ) (situation : EncoderSituation Word) (ws : List ℕ)
    → AreWords w ws → PartsFit number w s situation lower range → lower < 2 ^ s → range < 2 ^ s
    → number_of (2 ^ w) (pending_of number w situation ++ ws) * 2 ^ s + lower + range
    < 2 ^ s * (2 ^ w) ^ length (pending_of number w situation ++ ws)
inside_by number w s lower range Normal ws all fits low long =
    let next : (number_of (2 ^ w) ws + 1) * 2 ^ s ≤ (2 ^ w) ^ length ws * 2 ^ s =
    mul-le-mul_right (2 ^ s) (omega (arith, number_below w ws all)) in
    omega (arith, next, fits)
inside_by number w s lower range (Inverted count first) ws all fits low long =
    let b : ℕ = 2 ^ w in
    let n : ℕ = non_zero_usize_get count in
    let word : ℕ = number first in
    let held : List ℕ = repeated_words (b - 1) n word ++ ws in
    let carried : List ℕ = repeated_words 0 n (word + 1) ++ ws in
    let below : number_of b carried < b ^ length carried =
    number_below w carried (words_held_fit w 0 n (word + 1) ws (pow_pos w) fits.1 all) in
    let more : number_of b held + 1 < b ^ length held =
    rw (← carry_held b n word ws (pow_pos w), ← length-held 0 (b - 1) n (word + 1) word ws) below in
    let next : (number_of b held + 2) * 2 ^ s ≤ b ^ length held * 2 ^ s =
    mul-le-mul_right (2 ^ s) (omega (arith, more)) in
    omega (arith, next, low, long)

pub encoder_interval : {Word B S : Type 0} (number : Word → ℕ) (holds : holding.Ghosts B Word S) (w s : ℕ) (e : Encoder B)
    → ((x : Word) → number x < 2 ^ w) → IsEncoder number holds w s e → IsInterval w s (run_by w s e)
encoder_interval number holds w s e law is = record {
  least = is.least;
  fits = is.range_fits;
  inside = rw (is.held_is, is.words_are) (inside_by number w s e.lower e.range is.situation _
      (words_of_numbers number w law (holds.words e.bulk)) is.fits is.lower_fits is.range_fits);
}

-- ---- symbols that were encoded have entries, in both of two lists
