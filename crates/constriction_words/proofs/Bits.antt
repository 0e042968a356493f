-- Words with their bits in reverse order.
use Rattle.std.proofs.Common.{◌≡◌, ◌<◌, ◌+◌, ◌*◌, ◌/◌, ◌%◌, ◌^◌, ◌==◌, ℕ, zero, suc, [], ◌∷◌, ◌++◌, reverse, refl, sym, ap, ap₂, ◌∙◌, arith, add-one, pow_pos}
use Rattle.std.specs.Int.{reverse_bits_onto}
use Rattle.std.proofs.Math.Nat.{mod-eq_of_lt, pow-succ'}
use Rattle.std.proofs.lemmas.Nat.{field_of, mod_below, shr_split}
use Rattle.std.proofs.lemmas.List.{append-nil, append_assoc, reverse-append}
use native.Mathlib.Nat.{pow-zero}
use lib.Pow.{mod-mod-pow}
use Rattle.constriction_words.specs.Bits.{bits_of}

-- what is above the k lowest bits does not tell on them
pub bits_left : (k n : ℕ) → bits_of k (n % 2 ^ k) ≡ bits_of k n
bits_left zero n = refl
bits_left (suc k) n =
    let low : n % 2 ^ suc k % 2 ≡ n % 2 = rw add-one at (mod-mod-pow n k 1) in
    let high : n % 2 ^ suc k / 2 ≡ n / 2 % 2 ^ k = rw add-one at (field_of n k 1) in
    ap₂ (λ b x. (b == 1) ∷ bits_of k x) low high ∙ ap (λ bs. (n % 2 == 1) ∷ bs) (bits_left k (n / 2))

-- the k lowest bits of a number, last first, and behind them the j lowest of another
reversed_onto : (k j n a : ℕ) → bits_of (k + j) (reverse_bits_onto k n a) ≡ reverse (bits_of k n) ++ bits_of j a
unfolding reverse_bits_onto
reversed_onto zero j n a =
    let none : 0 + j ≡ j = omega arith in
    ap (λ c. bits_of c a) none
reversed_onto (suc k) j n a =
    let more : suc k + j ≡ k + suc j = omega arith in
    let bit : (a * 2 + n % 2) % 2 ≡ n % 2 = omega arith in
    let rest : (a * 2 + n % 2) / 2 ≡ a = omega arith in
    ap (λ c. bits_of c (reverse_bits_onto k (n / 2) (a * 2 + n % 2))) more
    ∙ reversed_onto k (suc j) (n / 2) (a * 2 + n % 2)
    ∙ ap₂ (λ b x. reverse (bits_of k (n / 2)) ++ (b == 1) ∷ bits_of j x) bit rest
    ∙ sym (append_assoc (reverse (bits_of k (n / 2))) ((n % 2 == 1) ∷ []) (bits_of j a))
    ∙ ap (λ bs. bs ++ bits_of j a) (sym (reverse-append ((n % 2 == 1) ∷ []) (bits_of k (n / 2))))

-- a number that the kit reversed
pub kit_reversed : (w x r : ℕ) → r ≡ reverse_bits_onto w x 0 → bits_of w r ≡ reverse (bits_of w x)
kit_reversed w x r is =
    let all : w + 0 ≡ w = omega arith in
    ap (λ y. bits_of w y) is
    ∙ ap (λ c. bits_of c (reverse_bits_onto w x 0)) (sym all)
    ∙ reversed_onto w 0 x 0
    ∙ append-nil (reverse (bits_of w x))

-- a reversed word, as the numbers of words say it
pub bits_reversed : (w x r : ℕ) → x < 2 ^ w → bits_of w r ≡ reverse (bits_of w x) → bits_of w (r % 2 ^ w) ≡ reverse (bits_of w (x % 2 ^ w))
bits_reversed w x r fits is =
    let same : x % 2 ^ w ≡ x = mod-eq_of_lt fits in
    bits_left w r ∙ is ∙ ap (λ y. reverse (bits_of w y)) (sym same)

-- bits of a sum of which the second part stands above the first
pub bits_joined : (k c n v : ℕ) → n < 2 ^ k → bits_of (k + c) (n + v * 2 ^ k) ≡ bits_of k n ++ bits_of c v
bits_joined zero c n v small =
    let none : n + v * 2 ^ 0 ≡ v = omega (arith, small, pow-zero 2) in
    let here : 0 + c ≡ c = omega arith in
    rw (none, here) refl
bits_joined (suc k) c n v small =
    let two = pow-succ' 2 k in
    let half : n / 2 < 2 ^ k = omega (arith, small, two) in
    let split : v * 2 ^ suc k ≡ 2 * (v * 2 ^ k) = ap (λ x. v * x) two ∙ swapped in
    let low : (n + v * 2 ^ suc k) % 2 ≡ n % 2 = omega (arith, split) in
    let high : (n + v * 2 ^ suc k) / 2 ≡ n / 2 + v * 2 ^ k = omega (arith, split) in
    let here : suc k + c ≡ suc (k + c) = omega arith in
    rw here (ap₂ (λ b x. (b == 1) ∷ bits_of (k + c) x) low high ∙ ap (λ bs. (n % 2 == 1) ∷ bs) (bits_joined k c (n / 2) v half))
  where
    swapped : v * (2 * 2 ^ k) ≡ 2 * (v * 2 ^ k)
    swapped = grind arith

-- the lower bits of a number, and then the higher ones
pub bits_split : (j c n : ℕ) → bits_of (j + c) n ≡ bits_of j n ++ bits_of c (n / 2 ^ j)
bits_split j c n =
    let whole : n ≡ n % 2 ^ j + n / 2 ^ j * 2 ^ j = sym (omega (arith, shr_split n j)) in
    ap (λ x. bits_of (j + c) x) whole ∙ (bits_joined j c (n % 2 ^ j) (n / 2 ^ j) (mod_below n (2 ^ j) (pow_pos j)) ∙ ap (λ bs. bs ++ bits_of c (n / 2 ^ j)) (bits_left j n))

-- a word whose halves were reversed and changed their places
pub halves_reversed : (h x l r : ℕ) → r < 2 ^ h → bits_of h l ≡ reverse (bits_of h (x % 2 ^ h)) → bits_of h r ≡ reverse (bits_of h (x / 2 ^ h))
    → bits_of (h + h) (r + l * 2 ^ h) ≡ reverse (bits_of (h + h) x)
halves_reversed h x l r small low high =
    bits_joined h h r l small
    ∙ ap₂ (λ a b. a ++ b) high low
    ∙ sym (reverse-append (bits_of h (x % 2 ^ h)) (bits_of h (x / 2 ^ h)))
    ∙ ap reverse (ap (λ bs. bs ++ bits_of h (x / 2 ^ h)) (bits_left h x) ∙ sym (bits_split h h x))
