-- How many bits there are.
use Rattle.std.proofs.Common.{◌≡◌, ◌<◌, ◌≤◌, ◌+◌, ◌-◌, ◌*◌, ◌/◌, ℕ, zero, suc, Bool, List, [], ◌∷◌, length, map, reverse, refl, sym, ap, ◌∙◌, arith, length-append, ◌==◌, true}
use Rattle.std.specs.Prelude.{◌↔◌}
use Rattle.std.proofs.lemmas.List.{length-map, length-reverse, nil_from_length}
use Rattle.std.proofs.Math.Nat.{le-div_iff_mul-le}
use Rattle.constriction_symbol.specs.Bits.{bits_of, bits_of_words, bits_above}
use Rattle.constriction_symbol.proofs.Coding.{length_bits}

pub length_words : (w : ℕ) (ns : List ℕ) → length (bits_of_words w ns) ≡ length ns * w
length_words w [] = omega arith
length_words w (n ∷ ns) = omega (arith, length-append (bits_of w n) (bits_of_words w ns), length_bits w n, length_words w ns)

-- those of the words, and the others
pub length_above : (w : ℕ) {W : Type 0} (number : W → ℕ) (words : List W) (last : List Bool) → length (bits_above w number words last) ≡ length words * w + length last
length_above w number words last =
    let count : length (map number (reverse words)) ≡ length words = length-map (reverse words) number ∙ length-reverse words in
    let all : length (bits_of_words w (map number (reverse words))) ≡ length words * w = rw count at (length_words w (map number (reverse words))) in
    omega (arith, length-append (bits_of_words w (map number (reverse words))) last, all)

-- a sum fits exactly where a factor is at most a quotient
pub fits_by_quotient : (r w c most : ℕ) → 0 < w → c ≤ most → (r ≤ (most - c) / w) ↔ (r * w + c < most + 1)
fits_by_quotient r w c most some within =
    let bound = le-div_iff_mul-le {x = r} {y = most - c} some in
    (λ h. let low = bound.0 h in omega (arith, low, within), λ h. bound.1 (omega (arith, h, within)))

-- no bits are no bits of words and no others
pub none_above : (w : ℕ) {W : Type 0} (number : W → ℕ) (words : List W) (last : List Bool) → 0 < w → bits_above w number words last ≡ [] → (length words ≡ 0) × (length last ≡ 0)
none_above w number words last some none =
    let all : length words * w + length last ≡ 0 = sym (length_above w number words last) ∙ ap length none in
    (no_words (length words) w some (omega (arith, all)), omega (arith, all))
  where
    no_words : (count v : ℕ) → 0 < v → count * v ≡ 0 → count ≡ 0
    no_words zero v some is = refl
    no_words (suc k) v some is = absurd (omega (arith, is, some))

-- the same as a list and as a test
pub empty_parts : (w : ℕ) {W : Type 0} (number : W → ℕ) (words : List W) (last : List Bool) → 0 < w → bits_above w number words last ≡ [] → ((length words == 0) ≡ true) × (last ≡ [])
empty_parts w number words last some none =
    let both = none_above w number words last some none in
    (rw both.0 refl, nil_from_length last both.1)

pub empty_above : (w : ℕ) {W : Type 0} (number : W → ℕ) (words : List W) (last : List Bool) → (length words == 0) ≡ true → last ≡ [] → bits_above w number words last ≡ []
empty_above w number [] last is none = rw none refl
empty_above w number (v ∷ vs) last is none =
    let no_words : length (v ∷ vs) ≡ 0 = grind (arith, is) in
    absurd (omega (arith, no_words))
