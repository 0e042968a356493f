-- Runs of a range coder, one more symbol at a time.
use Rattle.std.proofs.Common.{◌≡◌, ℕ, ◌+◌, ◌-◌, ◌/◌, ◌%◌, ◌^◌, ◌<◌, List, get_or, length, map, reverse, take, sym, subst, ◌∙◌, ap, arith}
use Rattle.std.proofs.lemmas.List.{take_more, reverse-reverse}
use Rattle.constriction_base.specs.Models.{Model, items_of}
use Rattle.constriction_queue.specs.Range.{Run, initial, offset, number_read, IsAt}
use Rattle.constriction_queue.specs.Decoder.{Decoder, quantile_read}
use Rattle.constriction_base.proofs.Trace.{Trace-symbol}
use Rattle.constriction_queue.specs.Symbols.{Narrows, NarrowsAll}
use Rattle.constriction_base.proofs.Turns.{map-reverse}

-- ---- encoding

-- the symbol behind those that were encoded
pub narrowed-more : (model : Model ℕ) (symbols : List ℕ) (place : ℕ) (old new : Run) → place < length symbols
    → NarrowsAll 32 64 (items_of model (take place symbols)) (initial 64) old → Narrows 32 64 model (get_or symbols place 0) old new
    → NarrowsAll 32 64 (items_of model (take (place + 1) symbols)) (initial 64) new
narrowed-more model symbols place old new inside before one =
    subst (λ (xs : List ℕ). NarrowsAll 32 64 (items_of model xs) (initial 64) new) (sym (take_more symbols place 0 inside))
    (Trace-symbol (λ item. Narrows 32 64 item.model item.symbol) model (take place symbols) (get_or symbols place 0) (initial 64) old new before one)

-- words in the order in which they were written
pub in_order : (f : ℕ → ℕ) (words : List ℕ) → map f words ≡ reverse (map f (reverse words))
in_order f words = ap (map f) (sym (reverse-reverse words)) ∙ map-reverse f (reverse words)

-- ---- decoding

point_offset : (number low point lower : ℕ) → point ≡ number % 2 ^ 64 → lower ≡ low % 2 ^ 64 → (point + (2 ^ 64 - lower)) % 2 ^ 64 ≡ (number + (2 ^ 64 - low % 2 ^ 64)) % 2 ^ 64
point_offset number low point lower p l = omega (arith, p, l)

-- a decoder at a moment of reading reads the quantile of that moment
pub quantile_is : {B : Type 0} (words : List ℕ) (run : Run) (d : Decoder B) → IsAt 32 64 words run d.lower d.range d.point d.words
    → quantile_read 64 24 d ≡ offset 32 64 words run / (run.range / 2 ^ 24)
quantile_is words run d at =
    ap (λ (n : ℕ). n / (d.range / 2 ^ 24)) (point_offset (number_read 32 64 words run.moves) run.low d.point d.lower at.point_is at.lower_is)
    ∙ ap (λ (n : ℕ). offset 32 64 words run / (n / 2 ^ 24)) at.range_is
