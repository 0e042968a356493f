-- Bits at the top of a word: one more and one less.
use Rattle.std.proofs.Common.{rules, nat_eq, take, ap₂, refl, ◌==◌, ◌≡◌, ◌<◌, ◌≤◌, ◌+◌, ◌*◌, ◌-◌, ◌/◌, ◌%◌, ◌^◌, ℕ, zero, suc, Bool, true, false, not, [], ◌∷◌, ◌++◌, sym, ap, subst, ◌∙◌, arith, pow_pos, if◌then◌else◌}
use Rattle.std.specs.Prelude.{IsTrue, ◌↔◌}
use Rattle.std.proofs.lemmas.Nat.{pow-add, shr-shr, shl-shr, shr_below, shl_below, field_of, mul-add-lt, mod_below}
use Rattle.constriction_base.proofs.Heads.{shr_below_top}
use native.Mathlib.Nat.{add-mul-div_right, mul_assoc}
use Rattle.constriction_words.proofs.Bits.{bits_joined, bits_left}
use Rattle.constriction_symbol.specs.Bits.{bits_of}
use Rattle.constriction_symbol.proofs.BitLemmas.{set_above, clear_above, top_off}

-- a bit above k bits, which stand above s + 1 others and then above s
top_more : (k s n m : ℕ) (bit : Bool) → n < 2 ^ (k + (s + 1)) → m ≡ n / 2 ^ 1 + (if bit then 2 ^ (k + s) else 0) → bits_of (k + 1) (m / 2 ^ s) ≡ bits_of k (n / 2 ^ (s + 1)) ++ bit ∷ []
top_more k s n m true fits is =
    let half : n / 2 ^ 1 / 2 ^ s ≡ n / 2 ^ (s + 1) = shr-shr n 1 s ∙ ap (λ e. n / 2 ^ e) (omega arith) in
    let split : m ≡ n / 2 ^ 1 + 2 ^ k * 2 ^ s = is ∙ ap (λ e. n / 2 ^ 1 + e) (pow-add 2 k s) in
    let up : m / 2 ^ s ≡ n / 2 ^ (s + 1) + 2 ^ k =
    ap (λ x. x / 2 ^ s) split ∙ (add-mul-div_right (n / 2 ^ 1) (2 ^ k) (pow_pos s) ∙ ap (λ x. x + 2 ^ k) half) in
    set_above k (n / 2 ^ (s + 1)) (m / 2 ^ s) (shr_below n k (s + 1) fits) up
top_more k s n m false fits is =
    let half : n / 2 ^ 1 / 2 ^ s ≡ n / 2 ^ (s + 1) = shr-shr n 1 s ∙ ap (λ e. n / 2 ^ e) (omega arith) in
    let none : m ≡ n / 2 ^ 1 = omega (arith, is) in
    let same : m / 2 ^ s ≡ n / 2 ^ (s + 1) = ap (λ x. x / 2 ^ s) none ∙ half in
    ap (λ x. bits_of (k + 1) x) same ∙ clear_above k (n / 2 ^ (s + 1)) (shr_below n k (s + 1) fits)

-- a bit more in a word of b bits, of which r mean nothing
pub more_at_top : (b r n m : ℕ) (bit : Bool) → r ≤ b → 0 < r → n < 2 ^ b → m ≡ n / 2 ^ 1 + (if bit then 2 ^ (b - 1) else 0)
    → bits_of (b - (r - 1)) (m / 2 ^ (r - 1)) ≡ bits_of (b - r) (n / 2 ^ r) ++ bit ∷ []
more_at_top b r n m bit within some fits is =
    let count : b - (r - 1) ≡ b - r + 1 = omega (arith, within, some) in
    let whole : b - r + (r - 1 + 1) ≡ b = omega (arith, within, some) in
    let place : b - 1 ≡ b - r + (r - 1) = omega (arith, within, some) in
    let back : r - 1 + 1 ≡ r = omega (arith, some) in
    let high : m ≡ n / 2 ^ 1 + (if bit then 2 ^ (b - r + (r - 1)) else 0) = is ∙ ap (λ e. n / 2 ^ 1 + (if bit then 2 ^ e else 0)) place in
    ap (λ c. bits_of c (m / 2 ^ (r - 1))) count
    ∙ (top_more (b - r) (r - 1) n m bit (subst (λ e. n < 2 ^ e) (sym whole) fits) high ∙ ap (λ e. bits_of (b - r) (n / 2 ^ e) ++ bit ∷ []) back)

-- the highest of k + 1 bits, which stand above r others
top_less : (k r n m v h : ℕ) (none : Bool) → n < 2 ^ (k + 1 + r) → m ≡ n % 2 ^ (k + r) → v ≡ m + m → h ≡ n / 2 ^ (k + r) → IsTrue none ↔ (h ≡ 0)
    → bits_of (k + 1) (n / 2 ^ r) ≡ bits_of k (v / 2 ^ (r + 1)) ++ not none ∷ []
top_less k r n m v h none fits low twice high clear =
    let swapped : k + r ≡ r + k = omega arith in
    let double : v ≡ m * 2 ^ 1 = omega (arith, twice) in
    let half : v / 2 ^ 1 ≡ m = ap (λ x. x / 2 ^ 1) double ∙ shl-shr m 1 in
    let rest : v / 2 ^ (r + 1) ≡ n / 2 ^ r % 2 ^ k =
    ap (λ e. v / 2 ^ e) (omega arith) ∙ (sym (shr-shr v 1 r) ∙ (ap (λ x. x / 2 ^ r) (half ∙ low) ∙ field_of n k r)) in
    let above : h ≡ n / 2 ^ r / 2 ^ k = high ∙ (ap (λ e. n / 2 ^ e) swapped ∙ sym (shr-shr n r k)) in
    top_off k (n / 2 ^ r) (v / 2 ^ (r + 1)) h none (shr_below n (k + 1) r fits) rest above clear

-- a bit less in a word of b bits, of which r mean nothing
pub less_at_top : (b r n m v h : ℕ) (none : Bool) → r < b → n < 2 ^ b → m ≡ n % 2 ^ (b - 1) → v ≡ m + m → h ≡ n / 2 ^ (b - 1) → IsTrue none ↔ (h ≡ 0)
    → bits_of (b - r) (n / 2 ^ r) ≡ bits_of (b - (r + 1)) (v / 2 ^ (r + 1)) ++ not none ∷ []
less_at_top b r n m v h none some fits low twice high clear =
    let count : b - r ≡ b - (r + 1) + 1 = omega (arith, some) in
    let whole : b - (r + 1) + 1 + r ≡ b = omega (arith, some) in
    let place : b - 1 ≡ b - (r + 1) + r = omega (arith, some) in
    ap (λ c. bits_of c (n / 2 ^ r)) count
    ∙ top_less (b - (r + 1)) r n m v h none (subst (λ e. n < 2 ^ e) (sym whole) fits) (low ∙ ap (λ e. n % 2 ^ e) place) twice (high ∙ ap (λ e. n / 2 ^ e) place) clear

-- the half of a word has no highest bit
pub half_room : (b n m : ℕ) → 0 < b → n < 2 ^ b → m ≡ n / 2 ^ 1 → m < 2 ^ (b - 1)
half_room b n m some fits is =
    let whole : b - 1 + 1 ≡ b = omega (arith, some) in
    subst (λ x. x < 2 ^ (b - 1)) (sym is) (shr_below n (b - 1) 1 (subst (λ e. n < 2 ^ e) (sym whole) fits))

-- there is no room exactly where there are as many bits as the word has
pub full_room : (b r : ℕ) → r ≤ b → 8 ≤ b → (IsTrue (nat_eq r 0) → b - r ≡ b) × (b - r ≡ b → IsTrue (nat_eq r 0))
full_room b zero within wide = (λ is. omega arith, λ is. search rules)
full_room b (suc s) within wide = (λ is. absurd (search rules), λ is. absurd (omega (arith, is, within, wide)))

-- a highest bit above a number that has none
pub highest_room : (b n : ℕ) (bit : Bool) → 0 < b → n < 2 ^ (b - 1) → n + (if bit then 2 ^ (b - 1) else 0) < 2 ^ b
highest_room b n true some small =
    let whole : b - 1 + 1 ≡ b = omega (arith, some) in
    let two : 2 ^ (b - 1 + 1) ≡ 2 ^ (b - 1) * 2 ^ 1 = pow-add 2 (b - 1) 1 in
    subst (λ e. n + 2 ^ (b - 1) < 2 ^ e) whole (omega (arith, two, small))
highest_room b n false some small =
    let whole : b - 1 + 1 ≡ b = omega (arith, some) in
    let two : 2 ^ (b - 1 + 1) ≡ 2 ^ (b - 1) * 2 ^ 1 = pow-add 2 (b - 1) 1 in
    subst (λ e. n + 0 < 2 ^ e) whole (omega (arith, two, small))

-- the lower of some bits
pub bits_below : (k c n : ℕ) → take k (bits_of (k + c) n) ≡ bits_of k n
bits_below zero c n = refl
bits_below (suc k) c n =
    let here : suc k + c ≡ suc (k + c) = omega arith in
    rw here (ap (λ bs. (n % 2 == 1) ∷ bs) (bits_below k c (n / 2)))

-- c bits more in a word of b bits, of which r mean nothing
pub all_at_top : (b r c n v m : ℕ) → r ≤ b → c ≤ r → n < 2 ^ b → m ≡ n / 2 ^ c + v * 2 ^ (b - c)
    → bits_of (b - (r - c)) (m / 2 ^ (r - c)) ≡ bits_of (b - r) (n / 2 ^ r) ++ bits_of c v
all_at_top b r c n v m within fits small is =
    let count : b - (r - c) ≡ b - r + c = omega (arith, within, fits) in
    let place : b - c ≡ b - r + (r - c) = omega (arith, within, fits) in
    let back : c + (r - c) ≡ r = omega (arith, fits) in
    let power : v * 2 ^ (b - c) ≡ v * 2 ^ (b - r) * 2 ^ (r - c) =
    ap (λ e. v * 2 ^ e) place ∙ (ap (λ x. v * x) (pow-add 2 (b - r) (r - c)) ∙ sym (mul_assoc v (2 ^ (b - r)) (2 ^ (r - c)))) in
    let split : m ≡ n / 2 ^ c + v * 2 ^ (b - r) * 2 ^ (r - c) = is ∙ ap (λ x. n / 2 ^ c + x) power in
    let rest : n / 2 ^ c / 2 ^ (r - c) ≡ n / 2 ^ r = shr-shr n c (r - c) ∙ ap (λ e. n / 2 ^ e) back in
    let up : m / 2 ^ (r - c) ≡ n / 2 ^ r + v * 2 ^ (b - r) =
    ap (λ x. x / 2 ^ (r - c)) split ∙ (add-mul-div_right (n / 2 ^ c) (v * 2 ^ (b - r)) (pow_pos (r - c)) ∙ ap (λ x. x + v * 2 ^ (b - r)) rest) in
    ap₂ (λ k x. bits_of k x) count up ∙ bits_joined (b - r) c (n / 2 ^ r) v (shr_below_top b r n within small)

-- c bits less
pub some_less : (b r c n m : ℕ) → r + c ≤ b → m ≡ n % 2 ^ (b - c) * 2 ^ c → bits_of (b - (r + c)) (m / 2 ^ (r + c)) ≡ take (b - r - c) (bits_of (b - r) (n / 2 ^ r))
some_less b r c n m within is =
    let place : b - c ≡ b - (r + c) + r = omega (arith, within) in
    let count : b - r ≡ b - (r + c) + c = omega (arith, within) in
    let kept : b - r - c ≡ b - (r + c) = omega (arith, within) in
    let swapped : r + c ≡ c + r = omega arith in
    let half : m / 2 ^ c ≡ n % 2 ^ (b - c) = ap (λ x. x / 2 ^ c) is ∙ shl-shr (n % 2 ^ (b - c)) c in
    let rest : m / 2 ^ (r + c) ≡ n / 2 ^ r % 2 ^ (b - (r + c)) =
    ap (λ e. m / 2 ^ e) swapped ∙ (sym (shr-shr m c r) ∙ (ap (λ x. x / 2 ^ r) (half ∙ ap (λ e. n % 2 ^ e) place) ∙ field_of n (b - (r + c)) r)) in
    ap (λ x. bits_of (b - (r + c)) x) rest
    ∙ (bits_left (b - (r + c)) (n / 2 ^ r) ∙ (sym (bits_below (b - (r + c)) c (n / 2 ^ r)) ∙ ap₂ (λ k j. take k (bits_of j (n / 2 ^ r))) (sym kept) (sym count)))

-- the word with c bits more
pub sum_room : (b c n v : ℕ) → c ≤ b → n < 2 ^ b → v < 2 ^ c → n / 2 ^ c + v * 2 ^ (b - c) < 2 ^ b
sum_room b c n v within fits small =
    let whole : b - c + c ≡ b = omega (arith, within) in
    let low : n / 2 ^ c < 2 ^ (b - c) = shr_below_top b c n within fits in
    let all : v * 2 ^ (b - c) + n / 2 ^ c < 2 ^ (b - c) * 2 ^ c = mul-add-lt v (2 ^ (b - c)) (n / 2 ^ c) (2 ^ c) small low in
    let power : 2 ^ (b - c) * 2 ^ c ≡ 2 ^ b = sym (pow-add 2 (b - c) c) ∙ ap (λ e. 2 ^ e) whole in
    omega (arith, all, power)

pub shifted_room : (b c v : ℕ) → c ≤ b → v < 2 ^ c → v * 2 ^ (b - c) < 2 ^ b
shifted_room b c v within small =
    let whole : c + (b - c) ≡ b = omega (arith, within) in
    subst (λ e. v * 2 ^ (b - c) < 2 ^ e) whole (shl_below v c (b - c) small)

pub left_room : (b c n m : ℕ) → c ≤ b → m ≡ n % 2 ^ (b - c) → m * 2 ^ c < 2 ^ b
left_room b c n m within is =
    let whole : b - c + c ≡ b = omega (arith, within) in
    let small : m < 2 ^ (b - c) = subst (λ x. x < 2 ^ (b - c)) (sym is) (mod_below n (2 ^ (b - c)) (pow_pos (b - c))) in
    subst (λ e. m * 2 ^ c < 2 ^ e) whole (shl_below m (b - c) c small)

-- as many bits as there is room for; and fewer than there are
pub put_fits : (b r c : ℕ) → r ≤ b → b - r + c ≤ b → c ≤ r
put_fits b r c within fits = omega (arith, within, fits)

pub taken_fits : (b r c : ℕ) → r ≤ b → c < b - r → (r + c ≤ b) × (c ≤ b) × (c < b)
taken_fits b r c within fewer = (omega (arith, within, fewer), omega (arith, within, fewer), omega (arith, within, fewer))
