-- Bits that are equal as lists, and the words that hold them as numbers.
use Rattle.std.proofs.Common.{◌≡◌, ◌<◌, ◌+◌, ◌*◌, ◌/◌, ◌%◌, ◌==◌, ◌^◌, ℕ, zero, suc, Bool, List, [], ◌∷◌, length, reverse, sym, ap, refl, ◌∙◌, arith, if◌then◌else◌}
use Rattle.std.specs.Prelude.{IsTrue, ◌↔◌}
use Rattle.std.specs.Bool.{beq, one_answer}
use Rattle.std.specs.Cmp.{booleans_Decides}
use Rattle.std.specs.Cmp.Lexicographic.{pointwise, pointwise_decides}
use Rattle.std.proofs.lemmas.List.{reverse-reverse}
use Rattle.std.proofs.Math.Nat.{pow-succ'}
use native.Mathlib.Nat.{pow-zero}
use Rattle.constriction_symbol.specs.Bits.{bits_of}

-- the number of bits, the lowest first
abbrev value : List Bool → ℕ
value [] = 0
value (b ∷ bs) = (if b then 1 else 0) + 2 * value bs

low_digit : (d : ℕ) → d < 2 → (if d == 1 then 1 else 0) ≡ d
low_digit zero low = refl
low_digit (suc zero) low = refl
low_digit (suc (suc d)) low = absurd (omega (arith, low))

value_bits : (k n : ℕ) → n < 2 ^ k → value (bits_of k n) ≡ n
value_bits zero zero below = refl
value_bits zero (suc n) below = absurd (omega (arith, below, pow-zero 2))
value_bits (suc k) n below =
    let half : n / 2 < 2 ^ k = omega (arith, below, pow-succ' 2 k) in
    omega (arith, low_digit (n % 2) (omega arith), value_bits k (n / 2) half)

-- so many bits of numbers that have no more are those of one number
pub same_number : (k n m : ℕ) → n < 2 ^ k → m < 2 ^ k → bits_of k n ≡ bits_of k m → n ≡ m
same_number k n m low high is = sym (value_bits k n low) ∙ (ap value is ∙ value_bits k m high)

-- the test of two words is that of the lists
pub same_bits : (xs ys : List Bool) (n m : ℕ) (r : Bool) → length xs ≡ length ys → bits_of (length xs) n ≡ xs → n < 2 ^ length xs → bits_of (length ys) m ≡ ys → m < 2 ^ length ys
    → IsTrue r ↔ (n ≡ m) → r ≡ pointwise beq xs ys
same_bits xs ys n m r long first low second high tells =
    one_answer r (pointwise beq xs ys) (λ set. to (tells.0 set), λ is. tells.1 (from is)) (pointwise_decides booleans_Decides xs ys)
  where
    to : n ≡ m → xs ≡ ys
    to is = sym first ∙ (ap (λ k. bits_of k n) long ∙ (ap (λ x. bits_of (length ys) x) is ∙ second))

    from : xs ≡ ys → n ≡ m
    from is = same_number (length ys) n m (rw long at low) high ((ap (λ k. bits_of k n) (sym long) ∙ first) ∙ (is ∙ sym second))

-- the same of bits of which the first one is the highest of its word
pub same_reversed_bits : (xs ys : List Bool) (n m : ℕ) (r : Bool) → length xs ≡ length ys → reverse (bits_of (length xs) n) ≡ xs → n < 2 ^ length xs → reverse (bits_of (length ys) m) ≡ ys → m < 2 ^ length ys
    → IsTrue r ↔ (n ≡ m) → r ≡ pointwise beq xs ys
same_reversed_bits xs ys n m r long first low second high tells =
    one_answer r (pointwise beq xs ys) (λ set. to (tells.0 set), λ is. tells.1 (from is)) (pointwise_decides booleans_Decides xs ys)
  where
    to : n ≡ m → xs ≡ ys
    to is = sym first ∙ (ap (λ k. reverse (bits_of k n)) long ∙ (ap (λ x. reverse (bits_of (length ys) x)) is ∙ second))

    reversed : (k : ℕ) (zs : List Bool) (x : ℕ) → reverse (bits_of k x) ≡ zs → bits_of k x ≡ reverse zs
    reversed k zs x is = sym (reverse-reverse (bits_of k x)) ∙ ap reverse is

    from : xs ≡ ys → n ≡ m
    from is =
        same_number (length ys) n m (rw long at low) high
        (ap (λ k. bits_of k n) (sym long) ∙ (reversed (length xs) xs n first ∙ (ap reverse is ∙ sym (reversed (length ys) ys m second))))
