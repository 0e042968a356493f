-- Words with their bits in reverse order, and numbers that are made again from their bits.
use Rattle.std.proofs.Common.{◌≡◌, ◌<◌, ◌≤◌, ◌+◌, ◌*◌, ◌-◌, ◌/◌, ◌%◌, ◌^◌, ℕ, zero, suc, Bool, true, false, not, List, [], ◌∷◌, ◌++◌, length, reverse, replicate, take, drop, refl, sym, ap, subst, ◌∙◌, arith, ◌≢◌, length-drop, length-append, ap₂, map, append_assoc}
use Rattle.std.specs.Prelude.{IsTrue, ◌↔◌}
use Rattle.std.proofs.lemmas.Nat.{shr-shr, shr_below, shr_le}
use Rattle.std.proofs.lemmas.List.{reverse-append, reverse-reverse, length-reverse, take-append-drop}
use Rattle.std.proofs.Math.Nat.{pow-succ'}
use Rattle.constriction_symbol.specs.Bits.{AreZeros, bits_above, bits_of, bits_of_words}
use Rattle.constriction_symbol.specs.Golomb.{number_after}
use Rattle.constriction_symbol.proofs.Coding.{length_bits, words_more}
use Rattle.constriction_symbol.proofs.GolombLemmas.{reverse_zeros}
use Rattle.constriction_symbol.proofs.TopLemmas.{bits_below}
use Rattle.constriction_words.proofs.Bits.{bits_split}

-- there is room for a bit more of a number
pub down_room : (b left n s : ℕ) → 0 < b → 0 < left → n < 2 ^ b → s ≡ n / 2 ^ left → 2 * s + 1 < 2 ^ b
down_room zero left n s wide some fits is = absurd (omega (arith, wide))
down_room (suc k) zero n s wide some fits is = absurd (omega (arith, some))
down_room (suc k) (suc j) n s wide some fits is =
    let half : n / 2 ^ 1 / 2 ^ j ≡ n / 2 ^ suc j = shr-shr n 1 j ∙ ap (λ e. n / 2 ^ e) (omega arith) in
    let below : n / 2 ^ 1 / 2 ^ j ≤ n / 2 ^ 1 = shr_le (n / 2 ^ 1) j in
    let small : n / 2 < 2 ^ k = omega (arith, fits, pow-succ' 2 k) in
    omega (arith, is, half, below, small, pow-succ' 2 k)

-- one bit more of a number
pub down_step : (left n s m h t : ℕ) (none : Bool) → 0 < left → s ≡ n / 2 ^ left → m ≡ n / 2 ^ (left - 1) → h ≡ m % 2 ^ 1 → IsTrue none ↔ (h ≡ 0) → t ≡ number_after s (not none ∷ []) → t ≡ n / 2 ^ (left - 1)
down_step left n s m h t none some is high low clear step =
    let back : left - 1 + 1 ≡ left = omega (arith, some) in
    step ∙ (by none clear ∙ high)
  where
    halved : m / 2 ≡ s
    halved = ap (λ x. x / 2) high ∙ (shr-shr n (left - 1) 1 ∙ (ap (λ e. n / 2 ^ e) (omega (arith, some)) ∙ sym is))

    by : (c : Bool) → IsTrue c ↔ (h ≡ 0) → number_after s (not c ∷ []) ≡ m
    by true clear₀ =
        let even : h ≡ 0 = clear₀.0 refl in
        omega (arith, even, low, halved)
    by false clear₀ =
        let not_zero : h ≢ 0 = λ is₀. let no = clear₀.1 is₀ in cc in
        omega (arith, not_zero, low, halved)

pub past : (front back : List Bool) → drop (length front) (front ++ back) ≡ back
past [] back = refl
past (x ∷ front) back = past front back

-- the highest bits of a word in reverse order are the lowest of the word, the other way round
pub highest_reversed : (b count x t : ℕ) → count ≤ b → bits_of b t ≡ reverse (bits_of b x) → bits_of count (t / 2 ^ (b - count)) ≡ reverse (bits_of count x)
highest_reversed b count x t within is =
    let rest = b - count in
    let whole : rest + count ≡ b = omega (arith, within) in
    let other : count + rest ≡ b = omega (arith, within) in
    let left : bits_of b t ≡ bits_of rest t ++ bits_of count (t / 2 ^ rest) = ap (λ k. bits_of k t) (sym whole) ∙ bits_split rest count t in
    let right : bits_of b x ≡ bits_of count x ++ bits_of rest (x / 2 ^ count) = ap (λ k. bits_of k x) (sym other) ∙ bits_split count rest x in
    let high = reverse (bits_of rest (x / 2 ^ count)) in
    let both : bits_of rest t ++ bits_of count (t / 2 ^ rest) ≡ high ++ reverse (bits_of count x) =
    sym left ∙ (is ∙ (ap reverse right ∙ reverse-append (bits_of count x) (bits_of rest (x / 2 ^ count)))) in
    let long : length (bits_of rest t) ≡ rest = length_bits rest t in
    let long_high : length high ≡ rest = length-reverse (bits_of rest (x / 2 ^ count)) ∙ length_bits rest (x / 2 ^ count) in
    let front : drop rest (bits_of rest t ++ bits_of count (t / 2 ^ rest)) ≡ bits_of count (t / 2 ^ rest) =
    subst (λ k. drop k (bits_of rest t ++ bits_of count (t / 2 ^ rest)) ≡ bits_of count (t / 2 ^ rest)) long (past (bits_of rest t) (bits_of count (t / 2 ^ rest))) in
    let back : drop rest (high ++ reverse (bits_of count x)) ≡ reverse (bits_of count x) =
    subst (λ k. drop k (high ++ reverse (bits_of count x)) ≡ reverse (bits_of count x)) long_high (past high (reverse (bits_of count x))) in
    sym front ∙ (ap (λ bs. drop rest bs) both ∙ back)

-- there are so many of them
pub highest_small : (b count t r : ℕ) → count ≤ b → t < 2 ^ b → r ≡ t / 2 ^ (b - count) → r < 2 ^ count
highest_small b count t r within fits is =
    let whole : count + (b - count) ≡ b = omega (arith, within) in
    subst (λ x. x < 2 ^ count) (sym is) (shr_below t count (b - count) (subst (λ e. t < 2 ^ e) (sym whole) fits))

-- the first of some bits are the last ones of them in reverse order
pub reverse_kept : (c : ℕ) (xs : List Bool) → c ≤ length xs → reverse (take (length xs - c) xs) ≡ drop c (reverse xs)
reverse_kept c xs within =
    let j = length xs - c in
    let parts : reverse xs ≡ reverse (drop j xs) ++ reverse (take j xs) = ap reverse (sym (take-append-drop j xs)) ∙ reverse-append (take j xs) (drop j xs) in
    let count : length (reverse (drop j xs)) ≡ c = length-reverse (drop j xs) ∙ (length-drop j xs ∙ omega (arith, within)) in
    sym (ap (λ bs. drop c bs) parts ∙ (ap (λ k. drop k (reverse (drop j xs) ++ reverse (take j xs))) (sym count) ∙ past (reverse (drop j xs)) (reverse (take j xs))))

-- the first of the bits that a word has in reverse order
pub queue_begins : (last : List Bool) (n all count : ℕ) → all ≡ length last → count < all → reverse (bits_of (length last) n) ≡ last
    → last ≡ reverse (bits_of count (n / 2 ^ (all - count))) ++ drop count last
queue_begins last n all count long fewer is =
    let j = all - count in
    let whole : j + count ≡ length last = omega (arith, long, fewer) in
    let first = reverse (bits_of count (n / 2 ^ j)) in
    let rest = reverse (bits_of j n) in
    let parts : last ≡ first ++ rest =
    sym is ∙ (ap (λ k. reverse (bits_of k n)) (sym whole) ∙ (ap reverse (bits_split j count n) ∙ reverse-append (bits_of j n) (bits_of count (n / 2 ^ j)))) in
    let long_first : length first ≡ count = length-reverse (bits_of count (n / 2 ^ j)) ∙ length_bits count (n / 2 ^ j) in
    let dropped : drop count last ≡ rest = ap (λ bs. drop count bs) parts ∙ (ap (λ k. drop k (first ++ rest)) (sym long_first) ∙ past first rest) in
    parts ∙ ap (λ bs. first ++ bs) (sym dropped)

-- the last of the bits that a word has
pub stack_ends : (last : List Bool) (n all count : ℕ) → all ≡ length last → count < all → bits_of (length last) n ≡ last
    → last ≡ take (length last - count) last ++ reverse (reverse (bits_of count (n / 2 ^ (all - count))))
stack_ends last n all count long fewer is =
    let j = all - count in
    let whole : j + count ≡ length last = omega (arith, long, fewer) in
    let kept : length last - count ≡ j = omega (arith, long, fewer) in
    let parts : last ≡ bits_of j n ++ bits_of count (n / 2 ^ j) = sym is ∙ (ap (λ k. bits_of k n) (sym whole) ∙ bits_split j count n) in
    let below : take (length last - count) last ≡ bits_of j n =
    ap (λ k. take k last) kept ∙ (ap (λ bs. take j bs) (sym is ∙ ap (λ k. bits_of k n) (sym whole)) ∙ bits_below j count n) in
    parts ∙ (ap (λ bs. bs ++ bits_of count (n / 2 ^ j)) (sym below) ∙ ap (λ bs. take (length last - count) last ++ bs) (sym (reverse-reverse (bits_of count (n / 2 ^ j)))))

zeros_reversed : (xs : List Bool) → AreZeros xs → AreZeros (reverse xs)
zeros_reversed xs is = ap reverse is ∙ (reverse_zeros (length xs) ∙ ap (λ k. replicate k false) (sym (length-reverse xs)))

pub zeros_both : (xs : List Bool) → (AreZeros xs → AreZeros (reverse xs)) × (AreZeros (reverse xs) → AreZeros xs)
zeros_both xs = (zeros_reversed xs, λ is. subst (λ bs. AreZeros bs) (reverse-reverse xs) (zeros_reversed (reverse xs) is))

-- bits fill the last word, which is written, and the others begin the next
pub across : {W : Type 0} (w : ℕ) (number : W → ℕ) (words words' : List W) (word : W) (last full last' front back bits : List Bool) → words' ≡ word ∷ words → bits_of (length full) (number word) ≡ full → length full ≡ w
    → full ≡ last ++ front → last' ≡ back → bits ≡ front ++ back → bits_above w number words' last' ≡ bits_above w number words last ++ bits
across w number words words' word last full last' front back bits more has whole filled next is =
    let before = bits_of_words w (map number (reverse words)) in
    let all : bits_of w (number word) ≡ last ++ front = ap (λ k. bits_of k (number word)) (sym whole) ∙ (has ∙ filled) in
    ap (λ ws. bits_of_words w (map number (reverse ws)) ++ last') more
    ∙ (ap₂ (λ xs ys. xs ++ ys) (words_more w number words word ∙ ap (λ bs. before ++ bs) all) next
    ∙ (append_assoc before (last ++ front) back ∙ (ap (λ bs. before ++ bs) (append_assoc last front back ∙ ap (λ bs. last ++ bs) (sym is)) ∙ sym (append_assoc before last bits))))

-- bits that fill a word
pub filled_length : (w : ℕ) (last full : List Bool) (n room : ℕ) → room + length last ≡ w → full ≡ last ++ bits_of (w - length last) n → length full ≡ w
filled_length w last full n room all is =
    ap length is ∙ (length-append last (bits_of (w - length last) n) ∙ omega (arith, all, length_bits (w - length last) n))

same_part : (n w len all count : ℕ) → all ≡ len → len ≤ w → count < all → n / 2 ^ (w - len) / 2 ^ (all - count) ≡ n / 2 ^ (w - count)
same_part n w len all count long within fewer = shr-shr n (w - len) (all - count) ∙ ap (λ e. n / 2 ^ e) (omega (arith, long, within, fewer))

-- the same of bits at the top of a word
pub queue_begins_top : (last : List Bool) (n w all count : ℕ) → all ≡ length last → length last ≤ w → count < all → reverse (bits_of (length last) (n / 2 ^ (w - length last))) ≡ last
    → last ≡ reverse (bits_of count (n / 2 ^ (w - count))) ++ drop count last
queue_begins_top last n w all count long within fewer is =
    queue_begins last (n / 2 ^ (w - length last)) all count long fewer is
    ∙ ap (λ x. reverse (bits_of count x) ++ drop count last) (same_part n w (length last) all count long within fewer)

pub stack_ends_top : (last : List Bool) (n w all count : ℕ) → all ≡ length last → length last ≤ w → count < all → bits_of (length last) (n / 2 ^ (w - length last)) ≡ last
    → last ≡ take (length last - count) last ++ reverse (reverse (bits_of count (n / 2 ^ (w - count))))
stack_ends_top last n w all count long within fewer is =
    stack_ends last (n / 2 ^ (w - length last)) all count long fewer is
    ∙ ap (λ x. take (length last - count) last ++ reverse (reverse (bits_of count x))) (same_part n w (length last) all count long within fewer)
