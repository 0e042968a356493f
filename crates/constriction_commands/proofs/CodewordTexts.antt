-- Codewords on a line, one more at a time, and words that fit.
use Rattle.std.proofs.Common.{◌≡◌, ℕ, ◌+◌, ◌%◌, ◌^◌, ◌<◌, Bool, List, [], ◌∷◌, ◌++◌, Option, None, Some, Result, Err, length, map, get_or, take, refl, ap, ◌∙◌, pow_pos}
use Rattle.std.specs.Prelude.{IsSome}
use Rattle.std.proofs.lemmas.List.{take_more, map-append}
use Rattle.std.proofs.lemmas.Nat.{mod_below}
use Rattle.constriction_base.specs.Steps.{AreWords}
use Rattle.constriction_base.specs.declared.errors.CoderError.TheVariants.{Frontend, Backend}
use Rattle.constriction_base.specs.declared.errors.DefaultEncoderFrontendError.{DefaultEncoderFrontendError}
use Rattle.constriction_symbol.specs.Codewords.{WritesCodeword, formed}
use Rattle.constriction_symbol.specs.Golomb.{golomb}
use Rattle.constriction_commands.specs.Codewords.{digits}

-- the codeword of a number as digits
abbrev text : ℕ → List ℕ
text n = digits (golomb n)

-- the codeword of one number more
pub text-more : (numbers : List ℕ) (i : ℕ) → i < length numbers
    → map (λ n. digits (golomb n)) (take (i + 1) numbers) ≡ map (λ n. digits (golomb n)) (take i numbers) ++ digits (golomb (get_or numbers i 0)) ∷ []
text-more numbers i inside = ap (map text) (take_more numbers i 0 inside) ∙ map-append text (take i numbers) (get_or numbers i 0 ∷ [])

-- the words of 32 bits of a coder fit
pub words_fit : (words : List ℕ) → AreWords 32 (map (λ word. word % 2 ^ 32) words)
words_fit [] = tt
words_fit (word ∷ words) = (mod_below word (2 ^ 32) (pow_pos 32), words_fit words)

-- a symbol that is impossible has no codeword
pub without_codeword : {C E : Type 0} (bits : C → List Bool) (puts : C → Bool → Result (Unit {0}) E → C → Type 0) (wants : E → Type 0) (form : List Bool → List Bool) (old new : C) (code : Option (List Bool)) (e : DefaultEncoderFrontendError)
    → WritesCodeword bits puts wants old (formed form code) (Err (Frontend e)) new → code ≡ None
without_codeword bits puts wants form old new None e written = refl
without_codeword bits puts wants form old new (Some code) e written = absurd written

-- the stream is refused only for a symbol with a codeword
pub with_codeword : {C E : Type 0} (bits : C → List Bool) (puts : C → Bool → Result (Unit {0}) E → C → Type 0) (wants : E → Type 0) (form : List Bool → List Bool) (old new : C) (code : Option (List Bool)) (e : E)
    → WritesCodeword bits puts wants old (formed form code) (Err (Backend e)) new → IsSome code
with_codeword bits puts wants form old new None e written = absurd (let other = written.0 in cc)
with_codeword bits puts wants form old new (Some code) e written = refl
