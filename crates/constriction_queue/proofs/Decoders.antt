-- What is true of every decoder.
use Rattle.std.proofs.Common.{◌≡◌, ◌↔◌, ℕ, ◌+◌, ◌-◌, ◌%◌, ◌^◌, ◌<◌, ◌≤◌, Bool, IsTrue, ap, arith, refl, subst, ◌∙◌}
use Rattle.constriction_base.specs.Steps.{IsSizes, Step}
use Rattle.constriction_base.specs.declared.backends.reading.Holds as holding
use Rattle.constriction_base.specs.declared.backends.reading.ReadWords as reading
use Rattle.constriction_queue.specs.Range.{narrowed_by}
use Rattle.constriction_queue.specs.Decoder.{Decoder, Follows, IsDecoder, OwesRead, ReadsOn, decoder_of}
use Rattle.constriction_queue.specs.declared.decoder.symbols.DecoderFrontendError.{DecoderFrontendError}
use Rattle.constriction_queue.specs.declared.decoder.symbols.DecoderFrontendError.TheVariants.{InvalidData}

-- the decoder of these parts
pub is_decoder : {Word B S : Type 0} (number : Word → ℕ) (holds : holding.Ghosts B Word S) (w s lower range point : ℕ) (bulk : B)
    → IsSizes w s → 2 ^ (s - w) ≤ range → lower < 2 ^ s → range < 2 ^ s → point < 2 ^ s
    → IsDecoder number holds w s (decoder_of number holds lower range point bulk)
is_decoder number holds w s lower range point bulk sizes least lower_fits range_fits point_fits =
    record { sizes = sizes; words_are = refl; least = least; lower_fits = lower_fits; range_fits = range_fits; point_fits = point_fits }

-- the point lies in the interval, as machine numbers tell it
pub is_inside : (s point lower range l d r : ℕ) (below : Bool) → l < 2 ^ s → d ≡ (point + 2 ^ s - l) % 2 ^ s → l ≡ lower → r ≡ range → (IsTrue below ↔ (d < r))
    → (IsTrue below ↔ ((point + (2 ^ s - lower)) % 2 ^ s < range))
is_inside s point lower range l d r below fits d_is l_is r_is says =
    let same : point + 2 ^ s - l ≡ point + (2 ^ s - l) = omega (arith, fits) in
    let far : d ≡ (point + (2 ^ s - l)) % 2 ^ s = d_is ∙ ap (λ n. n % 2 ^ s) same in
    rw (← l_is, ← far, ← r_is) says

-- what a step reads, by another word for the step
pub follows_by : {B : Type 0} (w s : ℕ) (old new : Decoder B) (step other : Step) → step ≡ other → Follows w s (narrowed_by w s step) old new → Follows w s (narrowed_by w s other) old new
follows_by w s old new step other same follows = subst (λ (e : Step). Follows w s (narrowed_by w s e) old new) same follows

pub reads_by : {Word B E S : Type 0} (number : Word → ℕ) (reads : reading.Ghosts B Word S E) (w s range : ℕ) (old new : Decoder B) (step other : Step) → step ≡ other
    → ReadsOn number reads w s (narrowed_by w s step) (OwesRead w s step range) old new → ReadsOn number reads w s (narrowed_by w s other) (OwesRead w s other range) old new
reads_by number reads w s range old new step other same read = subst (λ (e : Step). ReadsOn number reads w s (narrowed_by w s e) (OwesRead w s e range) old new) same read

-- there is no other error of the decoder itself
pub only_invalid : (error : DecoderFrontendError) → error ≡ InvalidData
only_invalid InvalidData = refl
