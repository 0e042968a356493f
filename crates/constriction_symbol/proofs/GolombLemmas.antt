-- Runs of an emitter, one bit more and one list after the other.
use Rattle.std.proofs.Common.{◌≡◌, ◌+◌, ◌-◌, ◌<◌, ◌≤◌, ◌/◌, ◌%◌, ◌^◌, ◌==◌, ℕ, zero, suc, Bool, true, false, not, List, [], ◌∷◌, ◌++◌, Result, Ok, Err, ap, subst, sym, inl, inr, refl, ◌∙◌, arith, reverse, replicate, add-one, ◌≢◌, ◌*◌, map, length, pow_pos, ap₂, append_assoc, if◌then◌else◌}
use Rattle.std.specs.Prelude.{IsTrue, ◌↔◌}
use Rattle.std.specs.Fn.{Mut, Called}
use Rattle.constriction_base.specs.declared.errors.CoderError.TheVariants.{Backend}
use Rattle.constriction_base.specs.declared.errors.CoderError.{CoderError}
use Rattle.constriction_base.specs.declared.errors.DefaultEncoderFrontendError.{DefaultEncoderFrontendError}
use Rattle.std.specs.Int.Digits.{digits_of}
use Rattle.std.proofs.lemmas.Int.Digits.{digits_of_step}
use Rattle.std.proofs.lemmas.List.{reverse-append, map_push, length-reverse, length-replicate, reverse-reverse}
use Rattle.std.proofs.Math.Nat.{div-div-eq-div-mul, div-one, mul_comm, pow-succ'}
use Rattle.std.proofs.Math.Pow.{pow_mono}
use native.Mathlib.Nat.{pow-suc, pow-zero}
use Rattle.std.proofs.lemmas.Nat.{pow-add, shr_below, le-div}
use Rattle.constriction_symbol.specs.Bits.{bits_of}
use Rattle.constriction_symbol.specs.Golomb.{binary, golomb, number_after}
use Rattle.constriction_symbol.specs.GolombLaws.{binary_after}
use Rattle.constriction_symbol.proofs.BitLemmas.{set_above}
use Rattle.constriction_symbol.proofs.Coding.{length_bits, bits_of_zero, filled_up}
use Rattle.constriction_symbol.specs.Codewords.{Answer, Emits}

-- zeros are the number 0
pub number_zeros : (k : ℕ) → number_after 0 (replicate k false) ≡ 0
number_zeros zero = refl
number_zeros (suc k) = number_zeros k

pub zeros_next : (n i : ℕ) → i < n → replicate (n - i) false ≡ false ∷ replicate (n - (i + 1)) false
zeros_next n i h = let e : n - i ≡ suc (n - (i + 1)) = omega arith in ap (λ k. replicate k false) e

module _ {F E : Type 0} (g : Mut F (Bool × Unit {0}) (Result (Unit {0}) E)) where
  -- a call that succeeded, and then the rest
  pub emitted_more : {f next : F} {b : Bool} {bs cs : List Bool} {s : Result (Unit {0}) E} (r : Answer E) (last : F) → cs ≡ b ∷ bs → s ≡ Ok tt → Called g f (b, tt) s next → Emits g next bs r last → Emits g f cs r last
  emitted_more {f} {next} {b} {bs} {cs} {s} r last c o h e =
      let P : List Bool → Type 0 = λ xs. Emits g f xs r last in
      let Q : Result (Unit {0}) E → Type 0 = λ x. Called g f (b, tt) x next in
      subst P (sym c) (inl (next, subst Q o h, e))

  -- a call that failed
  pub emitted_failed : {f next : F} {b : Bool} {bs cs : List Bool} {s : Result (Unit {0}) E} {e : E} → cs ≡ b ∷ bs → s ≡ Err e → Called g f (b, tt) s next → Emits g f cs (Err (Backend e)) next
  emitted_failed {f} {next} {b} {bs} {cs} {s} {e} c o h =
      let P : List Bool → Type 0 = λ xs. Emits g f xs (Err (Backend e)) next in
      let Q : Result (Unit {0}) E → Type 0 = λ x. Called g f (b, tt) x next in
      subst P (sym c) (inr (e, subst Q o h, refl))

halves : (k n : ℕ) → n / 2 / 2 ^ k ≡ n / 2 ^ suc k
halves k n = rw pow-suc (rw (mul_comm (2 ^ k) 2) (div-div-eq-div-mul n 2 (2 ^ k)))

-- bit k of a number stands above the k lowest
bit_at_top : (k n : ℕ) → bits_of (suc k) n ≡ bits_of k n ++ (n / 2 ^ k % 2 == 1) ∷ []
bit_at_top zero n = let same : n / 2 ^ 0 ≡ n = div-one n in rw same refl
bit_at_top (suc k) n = ap (λ bs. (n % 2 == 1) ∷ bs) (bit_at_top k (n / 2)) ∙ ap (λ x. (n % 2 == 1) ∷ (bits_of k (n / 2) ++ (x % 2 == 1) ∷ [])) (halves k n)

pub top_bit : (k n m h : ℕ) (b : Bool) → m ≡ n / 2 ^ k → h ≡ m % 2 ^ 1 → IsTrue b ↔ (h ≡ 0) → bits_of (k + 1) n ≡ bits_of k n ++ not b ∷ []
top_bit k n m h true high low none =
    let zero_bit : n / 2 ^ k % 2 ≡ 0 = rw (← high) (sym low ∙ none.0 refl) in
    rw add-one (bit_at_top k n ∙ ap (λ x. bits_of k n ++ (x == 1) ∷ []) zero_bit)
top_bit k n m h false high low none =
    let not_zero : h ≢ 0 = λ is. let no = none.1 is in cc in
    let one_bit : n / 2 ^ k % 2 ≡ 1 = rw (← high) (omega (arith, low, not_zero)) in
    rw add-one (bit_at_top k n ∙ ap (λ x. bits_of k n ++ (x == 1) ∷ []) one_bit)

-- the highest of so many bits comes first
pub reverse_next : (k n m h : ℕ) (b : Bool) → m ≡ n / 2 ^ k → h ≡ m % 2 ^ 1 → IsTrue b ↔ (h ≡ 0) → reverse (bits_of (k + 1) n) ≡ not b ∷ reverse (bits_of k n)
reverse_next k n m h b high low none = ap reverse (top_bit k n m h b high low none) ∙ reverse-append (bits_of k n) (not b ∷ [])

module _ {F E : Type 0} (g : Mut F (Bool × Unit {0}) (Result (Unit {0}) E)) where
  -- one list after the other
  pub emits_then : (f mid last : F) (xs ys : List Bool) (r : Answer E) → Emits g f xs (Ok tt) mid → Emits g mid ys r last → Emits g f (xs ++ ys) r last
  emits_then f mid last [] ys r e h = subst (λ from. Emits g from ys r last) (sym e.1) h
  emits_then f mid last (x ∷ xs) ys r (inl (next, called, rest)) h = inl (next, called, emits_then next mid last xs ys r rest h)
  emits_then f mid last (x ∷ xs) ys r (inr (e, called, is)) h = absurd cc

  -- a run that is refused is refused whatever comes behind
  pub emits_stopped : (f last : F) (xs ys : List Bool) (e : CoderError DefaultEncoderFrontendError E) → Emits g f xs (Err e) last → Emits g f (xs ++ ys) (Err e) last
  emits_stopped f last [] ys e h = let no = h.0 in absurd cc
  emits_stopped f last (x ∷ xs) ys e (inl (next, called, rest)) = inl (next, called, emits_stopped next last xs ys e rest)
  emits_stopped f last (x ∷ xs) ys e (inr (d, called, is)) = inr (d, called, is)

-- the bits of a number without leading zeros, the highest first
pub binary_bits : (k m : ℕ) → 2 ^ k ≤ m → m < 2 ^ (k + 1) → binary m ≡ reverse (bits_of (k + 1) m)
binary_bits zero m low high =
    let one : m ≡ 1 = omega (arith, low, high) in
    rw one refl
binary_bits (suc k) m low high =
    let two = pow-succ' 2 k in
    let more : 2 ^ (suc k + 1) ≡ 2 * 2 ^ (k + 1) = rw (add-one, add-one) (pow-succ' 2 (suc k)) in
    let half = binary_bits k (m / 2) (omega (arith, low, two)) (omega (arith, high, more)) in
    let digits : binary m ≡ binary (m / 2) ++ (m % 2 == 1) ∷ [] =
    let step : digits_of 2 m ≡ digits_of 2 (m / 2) ++ m % 2 ∷ [] = digits_of_step 2 m (omega arith) (omega (arith, low, two, pow_pos k)) in
    ap (map (λ d. d == 1)) step ∙ map_push (λ d. d == 1) (digits_of 2 (m / 2)) (m % 2) in
    let reversed : reverse (bits_of (suc k + 1) m) ≡ reverse (bits_of (k + 1) (m / 2)) ++ (m % 2 == 1) ∷ [] =
    rw (add-one, add-one) (reverse-append ((m % 2 == 1) ∷ []) (bits_of (suc k) (m / 2))) in
    digits ∙ (ap (λ bs. bs ++ (m % 2 == 1) ∷ []) half ∙ sym reversed)

pub count_down : (n i : ℕ) → i < n → (0 < n - i) × (n - i - 1 ≡ n - (i + 1))
count_down n i h = (omega (arith, h), omega (arith, h))

-- a number of so many bits
pub length_holds : (r m : ℕ) → 0 < m → m < 2 ^ r → 2 ^ r ≤ 2 * m + 1 → (0 < r) × (2 ^ (r - 1) ≤ m) × (r - 1 + 1 ≡ r)
length_holds zero m some high low = absurd (omega (arith, some, high, pow-zero 2))
length_holds (suc k) m some high low =
    let one : suc k - 1 ≡ k = omega arith in
    (omega arith, rw one (omega (arith, low, pow-succ' 2 k)), omega arith)

-- the codeword before a number of so many bits
pub golomb_before : (r m : ℕ) → 0 < m → m < 2 ^ r → 2 ^ r ≤ 2 * m + 1 → golomb (m - 1) ≡ replicate (r - 1) false ++ reverse (bits_of r m)
golomb_before r m some high low =
    let h = length_holds r m some high low in
    let bits : binary m ≡ reverse (bits_of r m) = rw h.2 at (binary_bits (r - 1) m h.1 (rw h.2 high)) in
    let count : length (binary m) ≡ r = rw bits (length-reverse (bits_of r m) ∙ length_bits r m) in
    let after : m - 1 + 1 ≡ m = omega (arith, some) in
    rw (after, count, bits) refl

zeros_more : (k : ℕ) → replicate k false ++ false ∷ [] ≡ replicate (suc k) false
zeros_more zero = refl
zeros_more (suc k) = ap (λ bs. false ∷ bs) (zeros_more k)

pub reverse_zeros : (k : ℕ) → reverse (replicate k false) ≡ replicate k false
reverse_zeros zero = refl
reverse_zeros (suc k) = reverse-append (false ∷ []) (replicate k false) ∙ (ap (λ bs. bs ++ false ∷ []) (reverse_zeros k) ∙ zeros_more k)

-- the codeword of the greatest number of so many bits
pub golomb_greatest : (b n : ℕ) → n + 1 ≡ 2 ^ b → golomb n ≡ replicate b false ++ true ∷ replicate b false
golomb_greatest b n is =
    let after : n + 1 ≡ 0 + 2 ^ b = omega (arith, is) in
    let low : 2 ^ b ≤ n + 1 = omega (arith, is) in
    let up : 2 ^ (b + 1) ≡ 2 * 2 ^ b = rw add-one (pow-succ' 2 b) in
    let high : n + 1 < 2 ^ (b + 1) = omega (arith, is, up, pow_pos b) in
    let bits : binary (n + 1) ≡ true ∷ replicate b false =
    binary_bits b (n + 1) low high ∙ (ap reverse (set_above b 0 (n + 1) (pow_pos b) after ∙ ap (λ bs. bs ++ true ∷ []) (bits_of_zero b)) ∙ (reverse-append (replicate b false) (true ∷ []) ∙ ap (λ bs. true ∷ bs) (reverse_zeros b))) in
    let count : length (binary (n + 1)) - 1 ≡ b = rw bits (omega (arith, length-replicate b false)) in
    rw (count, bits) refl

-- it is the same from either end
pub greatest_reversed : (b : ℕ) → reverse (replicate b false ++ true ∷ replicate b false) ≡ replicate b false ++ true ∷ replicate b false
greatest_reversed b =
    let reversed : reverse (true ∷ replicate b false) ≡ replicate b false ++ true ∷ [] = reverse-append (true ∷ []) (replicate b false) ∙ ap (λ bs. bs ++ true ∷ []) (reverse_zeros b) in
    reverse-append (replicate b false) (true ∷ replicate b false) ∙ (ap₂ (λ xs ys. xs ++ ys) reversed (reverse_zeros b) ∙ append_assoc (replicate b false) (true ∷ []) (replicate b false))

-- a number that isn't below the greatest
pub is_greatest : (n m b : ℕ) (r : Bool) → r ≡ false → IsTrue r ↔ (n < m) → m + 1 ≡ 2 ^ b → n < 2 ^ b → n + 1 ≡ 2 ^ b
is_greatest n m b r clear below greatest fits =
    let high : n < m → ⊥ = λ less. let no = below.1 less in absurd cc in
    omega (arith, high, greatest, fits)

pub golomb_reversed : (r m : ℕ) → 0 < m → m < 2 ^ r → 2 ^ r ≤ 2 * m + 1 → reverse (golomb (m - 1)) ≡ bits_of r m ++ replicate (r - 1) false
golomb_reversed r m some high low =
    ap reverse (golomb_before r m some high low) ∙ (reverse-append (replicate (r - 1) false) (reverse (bits_of r m)) ∙ ap₂ (λ xs ys. xs ++ ys) (reverse-reverse (bits_of r m)) (reverse_zeros (r - 1)))

-- the codeword as the lowest bits of one word, the highest of them first
pub golomb_once : (r m : ℕ) → 0 < m → m < 2 ^ r → 2 ^ r ≤ 2 * m + 1 → reverse (golomb (m - 1)) ≡ bits_of (2 * r - 1) m
golomb_once r m some high low =
    let more = length_holds r m some high low in
    let zeros : 2 * r - 1 - r ≡ r - 1 = omega (arith, more.0) in
    let up : bits_of (2 * r - 1) m ≡ bits_of r m ++ replicate (2 * r - 1 - r) false = filled_up (2 * r - 1) r m (omega (arith, more.0)) high in
    golomb_reversed r m some high low ∙ sym (rw zeros at up)

pub golomb_once_down : (r m : ℕ) → 0 < m → m < 2 ^ r → 2 ^ r ≤ 2 * m + 1 → golomb (m - 1) ≡ reverse (bits_of (2 * r - 1) m)
golomb_once_down r m some high low = sym (reverse-reverse (golomb (m - 1))) ∙ ap reverse (golomb_once r m some high low)

-- the codeword that was read: so many zeros, a bit that is set, and as many bits
pub golomb_read : (n : ℕ) (count : ℕ) (bs : List Bool) → length bs ≡ count → n ≡ number_after 1 bs → golomb (n - 1) ≡ (replicate count false ++ true ∷ []) ++ bs
golomb_read n count bs len is =
    let bits : binary n ≡ true ∷ bs = rw is (binary_after 1 bs (omega arith)) in
    let some : 0 < n = above_none n bits in
    let after : n - 1 + 1 ≡ n = omega (arith, some) in
    let one : suc count - 1 ≡ count = omega arith in
    rw (after, bits, len, one) (sym (append_assoc (replicate count false) (true ∷ []) bs))
  where
    above_none : (m : ℕ) → binary m ≡ true ∷ bs → 0 < m
    above_none zero is₀ = absurd cc
    above_none (suc m) is₀ = omega arith

-- so many bits fit behind a bit that is set
pub fits_below : (n k b : ℕ) → n ≡ 1 → k < b → (n + 1) * 2 ^ k ≤ 2 ^ b
fits_below n k b one less =
    let up : 2 ^ (k + 1) ≤ 2 ^ b = pow_mono (omega (arith, less)) in
    let two : 2 ^ (k + 1) ≡ 2 * 2 ^ k = rw add-one (pow-succ' 2 k) in
    rw one (omega (arith, up, two))

pub some_after : (n : ℕ) (bs : List Bool) → 0 < n → 0 < number_after n bs
some_after n [] some = some
some_after n (b ∷ bs) some = some_after (2 * n + (if b then 1 else 0)) bs (above b)
  where
    above : (c : Bool) → 0 < 2 * n + (if c then 1 else 0)
    above true = omega arith
    above false = omega (arith, some)

pub golomb_read_greatest : (n b count : ℕ) (bs : List Bool) → n + 1 ≡ 2 ^ b → count ≡ b → length bs ≡ count → bs ≡ replicate (length bs) false → golomb n ≡ (replicate count false ++ true ∷ []) ++ bs
golomb_read_greatest n b count bs is all len none =
    let tail : bs ≡ replicate b false = none ∙ ap (λ k. replicate k false) (len ∙ all) in
    golomb_greatest b n is ∙ rw (tail, all) (sym (append_assoc (replicate b false) (true ∷ []) (replicate b false)))

-- a number that begins with as many zeros as its codeword has: the zeros, a one and as many bits again
pub golomb_begins : (count len n : ℕ) → n < 2 ^ len → 2 ^ len ≤ 2 * n + 1 → len ≤ count → 2 * (count - len) + 1 < count
    → (n / 2 ^ (count - (2 * (count - len) + 1)) < 2 ^ (count - len + 1)) × (2 ^ (count - len + 1) ≤ 2 * (n / 2 ^ (count - (2 * (count - len) + 1))) + 1) × (0 < n / 2 ^ (count - (2 * (count - len) + 1)))
golomb_begins count len n small low within fewer =
    let zeros = count - len in
    let left = count - (2 * zeros + 1) in
    let whole : zeros + 1 + left ≡ len = omega (arith, within, fewer) in
    let below : n / 2 ^ left < 2 ^ (zeros + 1) = shr_below n (zeros + 1) left (subst (λ e. n < 2 ^ e) (sym whole) small) in
    let split : 2 ^ len ≡ 2 * (2 ^ zeros * 2 ^ left) =
    ap (λ e. 2 ^ e) (sym whole ∙ omega arith) ∙ (pow-succ' 2 (zeros + left) ∙ ap (λ x. 2 * x) (pow-add 2 zeros left)) in
    let least : 2 ^ zeros * 2 ^ left ≤ n = omega (arith, split, low) in
    let above : 2 ^ zeros ≤ n / 2 ^ left = le-div (2 ^ zeros) n (2 ^ left) (pow_pos left) least in
    let two : 2 ^ (zeros + 1) ≡ 2 * 2 ^ zeros = rw add-one (pow-succ' 2 zeros) in
    (below, omega (arith, two, above), omega (arith, above, pow_pos zeros))

-- a codeword within a word
pub golomb_fits : (r m b : ℕ) → 0 < m → m < 2 ^ r → 2 ^ r ≤ 2 * m + 1 → 2 * r - 1 < b → (m < 2 ^ b) × (m < 2 ^ (2 * r - 1)) × (0 < 2 * r - 1)
golomb_fits r m b some high low part =
    let h = length_holds r m some high low in
    let up : 2 ^ r ≤ 2 ^ (2 * r - 1) = pow_mono (omega (arith, h.0)) in
    let most : 2 ^ (2 * r - 1) ≤ 2 ^ b = pow_mono (omega (arith, part)) in
    (omega (arith, high, up, most), omega (arith, high, up), omega (arith, h.0))
