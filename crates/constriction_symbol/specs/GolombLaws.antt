-- Laws of the Exp-Golomb codebook: no codeword of a b-bit number is a prefix of another one, of unfinished bits, or of
-- invalid bits.
use Rattle.std.proofs.Common.{◌≡◌, ◌+◌, ◌-◌, ◌*◌, ◌/◌, ◌%◌, ◌<◌, ◌≤◌, ◌^◌, ◌==◌, ℕ, zero, suc, Bool, true, false, List, [], ◌∷◌, ◌++◌, Some, ap, sym, inl, inr, refl, ◌∙◌, arith, replicate, length, map, length-append, append_assoc, append-nil, if◌then◌else◌}
use Rattle.std.specs.Int.Digits.{digits_of}
use Rattle.std.proofs.lemmas.Int.Digits.{digits_of_step}
use Rattle.std.proofs.lemmas.List.{map_push, nil_from_length}
use Rattle.std.proofs.Math.Pow.{pow-lt}
use Rattle.std.proofs.lemmas.Option.{same_Some}
use Rattle.std.proofs.Math.Nat.{pow-succ'}
use native.Mathlib.Nat.{pow-zero}
use Rattle.constriction_symbol.specs.Golomb.{binary, golomb, number_after, zeros_one, WantsBit, IsInvalid}

pub number_push : (n : ℕ) (xs : List Bool) (b : Bool) → number_after n (xs ++ b ∷ []) ≡ number_after (number_after n xs) (b ∷ [])
number_push n [] b = refl
number_push n (x ∷ xs) b = number_push (2 * n + (if x then 1 else 0)) xs b

binary_digit : (n d : ℕ) (b : Bool) → 0 < n → d < 2 → (d == 1) ≡ b → binary (2 * n + d) ≡ binary n ++ b ∷ []
binary_digit n d b some digit is =
    let half : (2 * n + d) / 2 ≡ n = omega (arith, digit) in
    let low : (2 * n + d) % 2 ≡ d = omega (arith, digit) in
    let step : digits_of 2 (2 * n + d) ≡ digits_of 2 n ++ d ∷ [] = rw (half, low) at (digits_of_step 2 (2 * n + d) (omega arith) (omega (arith, some))) in
    ap (map (λ e. e == 1)) step ∙ (map_push (λ e. e == 1) (digits_of 2 n) d ∙ ap (λ x. map (λ e. e == 1) (digits_of 2 n) ++ x ∷ []) is)

-- For n above 0, the bits of 2 * n (plus 1 if b is set) are the bits of n and then b.
binary_more : (n : ℕ) (b : Bool) → 0 < n → binary (2 * n + (if b then 1 else 0)) ≡ binary n ++ b ∷ []
binary_more n true some = binary_digit n 1 true some (omega arith) refl
binary_more n false some = binary_digit n 0 false some (omega arith) refl

pub binary_after : (n : ℕ) (bs : List Bool) → 0 < n → binary (number_after n bs) ≡ binary n ++ bs
binary_after n [] some = sym (append-nil (binary n))
binary_after n (b ∷ bs) some = binary_after (2 * n + (if b then 1 else 0)) bs (above b) ∙ (ap (λ xs. xs ++ bs) (binary_more n b some) ∙ append_assoc (binary n) (b ∷ []) bs)
  where
    above : (c : Bool) → 0 < 2 * n + (if c then 1 else 0)
    above true = omega arith
    above false = omega (arith, some)

-- If the number after some bits is 0, then n is 0, and all these bits are 0.
pub no_bits : (n : ℕ) (bs : List Bool) → number_after n bs ≡ 0 → (n ≡ 0) × (bs ≡ replicate (length bs) false)
no_bits n [] is = (is, refl)
no_bits n (true ∷ bs) is = let rest = no_bits (2 * n + 1) bs is in absurd (omega (arith, rest.0))
no_bits n (false ∷ bs) is = let rest = no_bits (2 * n + 0) bs is in (omega (arith, rest.0), ap (λ xs. false ∷ xs) rest.1)

low_bit : (m k low : ℕ) → m / 2 ≡ suc k → m % 2 ≡ low → (bits : List Bool) → number_after 1 bits ≡ suc k → (tail : List Bool) × (number_after 1 tail ≡ m)
low_bit m k zero half low bits top = (bits ++ false ∷ [], number_push 1 bits false ∙ omega (arith, top, half, low))
low_bit m k (suc j) half low bits top = (bits ++ true ∷ [], number_push 1 bits true ∙ omega (arith, top, half, low))

halved : (m half : ℕ) → m / 2 ≡ half → 0 < m → (0 < m / 2 → (tail : List Bool) × (number_after 1 tail ≡ m / 2)) → (tail : List Bool) × (number_after 1 tail ≡ m)
halved m zero is some rest = ([], omega (arith, is, some))
halved m (suc k) is some rest =
    let found = rest (omega (arith, is)) in
    low_bit m k (m % 2) is refl found.0 (found.1 ∙ is)

-- The bits of a number above 0 are a 1 and other bits, highest first.
pub after_one : (fuel m : ℕ) → m ≤ fuel → 0 < m → (tail : List Bool) × (number_after 1 tail ≡ m)
after_one zero m within some = absurd (omega (arith, within, some))
after_one (suc fuel) m within some = halved m (m / 2) refl some (λ half. after_one fuel (m / 2) (omega (arith, within, some)) half)

-- The number after some bits is n, shifted left by the count of these bits, plus the number that these bits make alone.
pub number_above : (n : ℕ) (bits : List Bool) → number_after n bits ≡ n * 2 ^ length bits + number_after 0 bits
number_above n [] = omega (arith, pow-zero 2)
number_above n (b ∷ bs) =
    let two = pow-succ' 2 (length bs) in
    let here = number_above (2 * n + (if b then 1 else 0)) bs in
    let alone = number_above (2 * 0 + (if b then 1 else 0)) bs in
    rw two (omega (arith, here, alone))

-- A codeword is zeros, a 1, and as many bits as zeros.
pub golomb_shape : (n : ℕ) → (tail : List Bool) × (golomb n ≡ zeros_one (length tail) tail) × (number_after 1 tail ≡ n + 1)
golomb_shape n =
    let found = after_one (n + 1) (n + 1) (omega arith) (omega arith) in
    let bits : binary (n + 1) ≡ true ∷ found.0 = ap binary (sym found.1) ∙ binary_after 1 found.0 (omega arith) in
    let one : suc (length found.0) - 1 ≡ length found.0 = omega arith in
    (found.0, rw (bits, one) refl, found.1)

-- If two equal lists are each zeros, a 1 and a tail, they have equally many zeros and the same tail.
pub same_zeros : (j k : ℕ) (xs ys : List Bool) → zeros_one j xs ≡ zeros_one k ys → (j ≡ k) × (xs ≡ ys)
same_zeros zero zero xs ys is = (refl, cc)
same_zeros zero (suc k) xs ys is = absurd cc
same_zeros (suc j) zero xs ys is = absurd cc
same_zeros (suc j) (suc k) xs ys is =
    let rest : zeros_one j xs ≡ zeros_one k ys = cc in
    let same = same_zeros j k xs ys rest in
    (ap suc same.0, same.1)

-- Zeros alone have no 1.
pub only_zeros : (j k : ℕ) (ys : List Bool) → replicate j false ≡ zeros_one k ys → ⊥
only_zeros zero zero ys is = cc
only_zeros zero (suc k) ys is = cc
only_zeros (suc j) zero ys is = cc
only_zeros (suc j) (suc k) ys is = let rest : replicate j false ≡ zeros_one k ys = cc in only_zeros j k ys rest

-- If bits begin with j zeros, at least j zeros precede their first 1.
pub fewer_zeros : (j k : ℕ) (xs ys : List Bool) → replicate j false ++ xs ≡ zeros_one k ys → j ≤ k
fewer_zeros zero k xs ys is = omega arith
fewer_zeros (suc j) zero xs ys is = absurd cc
fewer_zeros (suc j) (suc k) xs ys is =
    let rest : replicate j false ++ xs ≡ zeros_one k ys = cc in
    omega (arith, fewer_zeros j k xs ys rest)

pub zeros_one_then : (k : ℕ) (tail rest : List Bool) → zeros_one k tail ++ rest ≡ zeros_one k (tail ++ rest)
zeros_one_then k tail rest = append_assoc (replicate k false) (true ∷ tail) rest

-- Two beginnings of one list are equal if they have equal length.
pub same_front : (xs ys ms ns : List Bool) → length xs ≡ length ys → xs ++ ms ≡ ys ++ ns → xs ≡ ys
same_front [] [] ms ns len is = refl
same_front [] (y ∷ ys) ms ns len is = absurd (omega (arith, len))
same_front (x ∷ xs) [] ms ns len is = absurd (omega (arith, len))
same_front (x ∷ xs) (y ∷ ys) ms ns len is =
    let rest : xs ++ ms ≡ ys ++ ns = cc in
    let head : x ≡ y = cc in
    let same = same_front xs ys ms ns (omega (arith, len)) rest in
    cc

-- If k zeros, a 1 and `more` begin with a codeword, the codeword has k zeros, and `more` begins with its last k bits.
begun : (n : ℕ) (bits more tail : List Bool) (k : ℕ) → zeros_one k more ≡ golomb n ++ tail → (front : List Bool) × (length front ≡ k) × (number_after 1 front ≡ n + 1) × (more ≡ front ++ tail)
begun n bits more tail k is =
    let shape = golomb_shape n in
    let whole : zeros_one k more ≡ zeros_one (length shape.0) (shape.0 ++ tail) = is ∙ (ap (λ bs. bs ++ tail) shape.1 ∙ zeros_one_then (length shape.0) shape.0 tail) in
    let same = same_zeros k (length shape.0) more (shape.0 ++ tail) whole in
    (shape.0, sym same.0, shape.2, same.1)

-- No codeword begins another.
pub golomb_prefix_free : (m n : ℕ) (tail : List Bool) → golomb n ≡ golomb m ++ tail → m ≡ n
golomb_prefix_free m n tail is =
    let shape = golomb_shape n in
    let front = begun m [] shape.0 tail (length shape.0) (sym shape.1 ∙ is) in
    let none : length tail ≡ 0 = omega (arith, front.1, ap length front.3, length-append front.0 tail) in
    let empty : tail ≡ [] = nil_from_length tail none in
    let same : shape.0 ≡ front.0 = front.3 ∙ (ap (λ bs. front.0 ++ bs) empty ∙ append-nil front.0) in
    omega (arith, front.2, shape.2, ap (λ bs. number_after 1 bs) same)

-- No codeword is complete where a reader reads on.
pub wanted_more : (b n : ℕ) (bits tail : List Bool) → WantsBit b bits → bits ≡ golomb n ++ tail → ⊥
wanted_more b n bits tail (inl (count, within, zeros)) is =
    let shape = golomb_shape n in
    only_zeros count (length shape.0) (shape.0 ++ tail) (sym zeros ∙ (is ∙ (ap (λ bs. bs ++ tail) shape.1 ∙ zeros_one_then (length shape.0) shape.0 tail)))
wanted_more b n bits tail (inr (count, more, within, fewer, zeros)) is =
    let front = begun n [] more tail count (sym zeros ∙ is) in
    omega (arith, front.1, fewer, ap length front.3, length-append front.0 tail)

-- The codeword of a number below 2 ^ b has at most b zeros before its first 1.
pub zeros_within : (b n : ℕ) (front : List Bool) → n + 1 ≤ 2 ^ b → number_after 1 front ≡ n + 1 → length front ≤ b
zeros_within b n front fits is =
    let above = number_above 1 front in
    let low : 2 ^ length front ≤ 2 ^ b = omega (arith, above, is, fits) in
    below (length front) low
  where
    below : (k : ℕ) → 2 ^ k ≤ 2 ^ b → k ≤ b
    below k low =
        let no : b < k → ⊥ = λ more. let up : 2 ^ b < 2 ^ k = pow-lt more in omega (arith, up, low) in
        omega (arith, no)

-- Invalid bits begin with no codeword, whatever bits follow them.
pub invalid_bits : (b n : ℕ) (bits rest tail : List Bool) → n < 2 ^ b → IsInvalid b bits → bits ++ rest ≡ golomb n ++ tail → ⊥
invalid_bits b n bits rest tail fits (inl zeros) is =
    let shape = golomb_shape n in
    let whole : replicate (b + 1) false ++ rest ≡ zeros_one (length shape.0) (shape.0 ++ tail) =
    ap (λ bs. bs ++ rest) (sym zeros) ∙ (is ∙ (ap (λ bs. bs ++ tail) shape.1 ∙ zeros_one_then (length shape.0) shape.0 tail)) in
    let many = fewer_zeros (b + 1) (length shape.0) rest (shape.0 ++ tail) whole in
    let few = zeros_within b n shape.0 (omega (arith, fits)) shape.2 in
    omega (arith, many, few)
invalid_bits b n bits rest tail fits (inr (more, len, some, zeros)) is =
    let front = begun n [] (more ++ rest) tail b (sym (zeros_one_then b more rest) ∙ (ap (λ bs. bs ++ rest) (sym zeros) ∙ is)) in
    let same : more ≡ front.0 = same_front more front.0 rest tail (omega (arith, len, front.1)) front.3 in
    let value : number_after 1 more ≡ n + 1 = ap (λ bs. number_after 1 bs) same ∙ front.2 in
    let above : number_after 1 more ≡ 1 * 2 ^ b + number_after 0 more = number_above 1 more ∙ ap (λ k. 1 * 2 ^ k + number_after 0 more) len in
    let none : number_after 0 more ≡ 0 = omega (arith, value, above, fits) in
    some ((no_bits 0 more none).1 ∙ ap (λ k. replicate k false) len)

pub known_prefix_free : (m n : ℕ) (bits tail : List Bool) → Some (golomb m) ≡ Some bits → Some (golomb n) ≡ Some (bits ++ tail) → m ≡ n
known_prefix_free m n bits tail first second =
    golomb_prefix_free m n tail (same_Some _ _ second ∙ ap (λ bs. bs ++ tail) (sym (same_Some _ _ first)))

pub known_on : (b n : ℕ) (bits code tail : List Bool) → WantsBit b bits → Some (golomb n) ≡ Some code → bits ≡ code ++ tail → ⊥
known_on b n bits code tail on known is = wanted_more b n bits tail on (is ∙ ap (λ bs. bs ++ tail) (sym (same_Some _ _ known)))

pub known_invalid : (b n : ℕ) (bits rest code tail : List Bool) → n < 2 ^ b → IsInvalid b bits → Some (golomb n) ≡ Some code → bits ++ rest ≡ code ++ tail → ⊥
known_invalid b n bits rest code tail fits invalid known is = invalid_bits b n bits rest tail fits invalid (is ∙ ap (λ bs. bs ++ tail) (sym (same_Some _ _ known)))

pub same_codeword : (m n : ℕ) → m ≡ n → Some (golomb m) ≡ Some (golomb n)
same_codeword m n is = ap (λ k. Some (golomb k)) is
