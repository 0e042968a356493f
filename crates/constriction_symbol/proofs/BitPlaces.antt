-- Bits of words below a bit and from it on, and bits that are taken one by one.
use Rattle.std.proofs.Common.{◌≡◌, ◌≤◌, ◌+◌, ◌-◌, ◌*◌, ◌/◌, ◌%◌, ℕ, Bool, List, ◌∷◌, ◌++◌, Option, Some, None, Ok, length, map, take, drop, ap, ap₂, sym, subst, arith, ◌∙◌}
use Rattle.std.proofs.lemmas.List.{drop-drop, drop-take, length-map, length-take-le, map-append, take-append-drop, take-take}
use Rattle.std.proofs.lemmas.Grind.{flat_map-append}
use Rattle.std.proofs.Math.Nat.{div-add-mod, div-le_of_le-mul, mul_comm}
use Rattle.std.proofs.Math.Seq.{drop-append-add, take-append-add}
use Rattle.constriction_base.specs.Iterators.{item_of_answer}
use Rattle.constriction_symbol.specs.Bits.{YieldsBit, bits_of, bits_of_words}
use Rattle.constriction_symbol.proofs.Lengths.{length_words}

-- ---- one bit after another
pub off_one : (k : ℕ) (all : List Bool) (b : Bool) (new : List Bool) → drop k all ≡ b ∷ new → new ≡ drop (k + 1) all
off_one k all b new is = sym (ap (λ xs. drop 1 xs) is) ∙ drop-drop 1 k all

pub one_further : (E : Type 0) (k : ℕ) (all : List Bool) (x : Option Bool) (new : List Bool) → YieldsBit {E = E} (drop k all) (item_of_answer (Ok x)) new → new ≡ drop (k + 1) all
one_further E k all (Some b) new is = off_one k all b new is
one_further E k all None new is = is.1 ∙ (sym (ap (λ xs. drop 1 xs) is.0) ∙ drop-drop 1 k all)

pub one_longer : (k : ℕ) (all next : List Bool) → drop k all ≡ next → take (k + 1) all ≡ take k all ++ take 1 next
one_longer k all next is =
    sym (take-append-drop k (take (k + 1) all)) ∙ (ap₂ (λ xs ys. xs ++ ys) (take-take k (k + 1) all (omega arith)) (drop-take k 1 all) ∙ ap (λ xs. take k all ++ take 1 xs) is)

-- ---- a bit of words
module _ {W : Type 0} (number : W → ℕ) (w bit : ℕ) (words : List W) (within : bit ≤ length words * w) where
  -- the bits of the words before that of the bit, and those of the others
  abbrev pub before : List Bool
  before = bits_of_words w (map number (take (bit / w) words))

  abbrev pub behind : List Bool
  behind = bits_of_words w (map number (drop (bit / w) words))

  pub place : bit / w ≤ length words
  place = div-le_of_le-mul w (omega (arith, within, mul_comm w (length words)))

  pub of_both : (first second : List W) → bits_of_words w (map number (first ++ second)) ≡ bits_of_words w (map number first) ++ bits_of_words w (map number second)
  of_both first second = ap (λ ns. bits_of_words w ns) (map-append number first second) ∙ flat_map-append (bits_of w) (map number first) (map number second)

  pub halves : bits_of_words w (map number words) ≡ before ++ behind
  halves = ap (λ ws. bits_of_words w (map number ws)) (sym (take-append-drop (bit / w) words)) ∙ of_both (take (bit / w) words) (drop (bit / w) words)

  pub whole : length before + bit % w ≡ bit
  whole =
      let size = length_words w (map number (take (bit / w) words)) ∙ ap (λ n. n * w) (length-map (take (bit / w) words) number ∙ length-take-le (bit / w) words place) in
      omega (arith, size, div-add-mod bit w, mul_comm w (bit / w))

  pub from_bit : drop bit (bits_of_words w (map number words)) ≡ drop (bit % w) behind
  from_bit = ap (λ bs. drop bit bs) halves ∙ subst (λ n. drop n (before ++ behind) ≡ drop (bit % w) behind) whole (drop-append-add before behind (bit % w))

  pub below_bit : take bit (bits_of_words w (map number words)) ≡ before ++ take (bit % w) behind
  below_bit = ap (λ bs. take bit bs) halves ∙ subst (λ n. take n (before ++ behind) ≡ before ++ take (bit % w) behind) whole (take-append-add before behind (bit % w))
