-- Shares rounded_share by estimates are rounded_share as the remainders want.
use Rattle.std.specs.Prelude.{◌≡◌, ℕ, ◌+◌, ◌-◌, ◌*◌, ◌/◌, ◌%◌, ◌<◌, ◌≤◌, List, [], ◌∷◌, length, slice_index, map, take, cond, nat_le, nat_eq, IsTrue, Bool, true, false}
use Rattle.std.proofs.Math.Bool.{◌&&◌, not}
use Rattle.std.specs.List.{sum_by, sum}
use Rattle.std.proofs.Common.{refl, sym, ap, ◌∙◌, inl, inr, arith, below_more}
use Rattle.std.proofs.Math.Nat.{mul-le-mul_right, lt_of_mul-lt-mul_right}
use Rattle.std.proofs.lemmas.Bool.{cases_lt}
use Rattle.std.proofs.lemmas.Bool.Decides.{nat_tests}
use Rattle.std.proofs.lemmas.Nat.{mod_below, div-add-mod'}
use Rattle.std.proofs.lemmas.List.Sums.{sum_by-cons, get_or-le-sum_by, sum_by_more_le}
use Rattle.std.proofs.lemmas.List.{get_or-map, length-map}
use Rattle.constriction_models.specs.Counts.{raised, kept, whole, over, some_over, share_estimate, rounded_share, AreRounded}
use Rattle.constriction_models.proofs.Sharing.{some_over_yes, divided_whole, divided_over, raised_few, kept_le, sum_within}
use Rattle.constriction_models.proofs.Dividing.{IsNear, is_near, near_fits}

-- ---- one step of the loop
both : (a b : Bool) → IsTrue (a && b) → IsTrue a × IsTrue b
both true b h = (refl, h)
both false true h = (h, refl)
both false false h = (h, h)

is_clear : (x : ℕ) → x < 4294967296 → IsTrue (not (nat_eq x 4294967295)) → x < 4294967295
is_clear x low h = grind (arith, nat_tests)

pub stays_clear : (xs : List ℕ) (lift i : ℕ) (clear : Bool) → (IsTrue clear → (k : ℕ) → k < i → (slice_index xs k + lift) % 4294967296 < 4294967295) → IsTrue (clear && not (nat_eq ((slice_index xs i + lift) % 4294967296) 4294967295))
    → (k : ℕ) → k < i + 1 → (slice_index xs k + lift) % 4294967296 < 4294967295
stays_clear xs lift i clear before h =
    let is = both clear _ h in
    below_more (λ k. (slice_index xs k + lift) % 4294967296 < 4294967295) i (before is.0) (is_clear ((slice_index xs i + lift) % 4294967296) (omega arith) is.1)

pub total_fits : (xs : List ℕ) (lift i : ℕ) → lift < 4294967296 → ((k : ℕ) → k < length xs → slice_index xs k ≤ 9223372041149743104) → length xs < 2147483648 → i < length xs → sum_by (rounded_share lift) (take i xs) + rounded_share lift (slice_index xs i) < 18446744073709551616
unfolding rounded_share
total_fits xs lift i low fit short inside =
    let all : sum_by (rounded_share lift) xs ≤ length xs * 4294967295 = sum_within (rounded_share lift) 4294967295 xs (λ k h. omega (arith, fit k h, low)) in
    omega (arith, sum_by_more_le (rounded_share lift) xs i 0 inside, all, short)

-- ---- the fractions that reach the bound
-- 1 if the fraction of a count's share is at least `bound` in units of 2^-32
pub up : ℕ → ℕ → ℕ → ℕ → ℕ → ℕ
up limit mass rest bound c = cond (nat_le (bound * rest) (over limit mass rest c * 4294967296)) 1 0

pub up_yes : (limit mass rest bound c : ℕ) → bound * rest ≤ over limit mass rest c * 4294967296 → up limit mass rest bound c ≡ 1
unfolding up
up_yes limit mass rest bound c h = grind (arith, nat_tests)

pub up_no : (limit mass rest bound c : ℕ) → over limit mass rest c * 4294967296 < bound * rest → up limit mass rest bound c ≡ 0
unfolding up
up_no limit mass rest bound c h = grind (arith, nat_tests)

-- a quotient between two neighbours
between : (w q rest r b : ℕ) → 0 < rest → r < rest → b ≤ 4294967296 * rest → w * rest * 4294967296 ≤ q * rest * 4294967296 + r * 4294967296 + (4294967296 * rest - b) → q * rest * 4294967296 + r * 4294967296 + (4294967296 * rest - b) < (w * rest + rest) * 4294967296
    → (b ≤ r * 4294967296 → w ≡ q + 1) × (r * 4294967296 < b → w ≡ q)
between w q rest r b some low fits from below = (above, under)
  where
    above : b ≤ r * 4294967296 → w ≡ q + 1
    above h =
        let most : w * rest < (q + 2) * rest = omega (arith, from, h, low, fits) in
        let least : (q + 1) * rest < (w + 1) * rest = omega (arith, below, h, fits) in
        omega (arith, lt_of_mul-lt-mul_right rest most, lt_of_mul-lt-mul_right rest least)

    under : r * 4294967296 < b → w ≡ q
    under h =
        let most : w * rest < (q + 1) * rest = omega (arith, from, h, fits) in
        let least : q * rest < (w + 1) * rest = omega (arith, below, fits) in
        omega (arith, lt_of_mul-lt-mul_right rest most, lt_of_mul-lt-mul_right rest least)

-- ---- one share_estimate
estimate_near : (c mass rest rate : ℕ) → 0 < rest → c < 18446744073709551616 → rate ≡ mass * 79228162514264337593543950336 / rest → IsNear c (mass * 4294967296) rest (c * rate / 18446744073709551616)
estimate_near c mass rest rate some fits rate_is =
    let unit : mass * 79228162514264337593543950336 ≡ mass * 4294967296 * 18446744073709551616 = omega arith in
    is_near 18446744073709551616 c (mass * 4294967296) rest rate (c * rate / 18446744073709551616) some (omega arith) (omega (arith, fits)) (rate_is ∙ ap (λ x. x / rest) unit) refl

pub estimate_of : (limit mass rest c part few rate : ℕ) → part ≡ kept limit c → few ≡ raised limit c → rate ≡ mass * 79228162514264337593543950336 / rest → part * rate / 18446744073709551616 + few * 4294967296 ≡ share_estimate limit mass rest c
unfolding share_estimate
estimate_of limit mass rest c part few rate part_is few_is rate_is = rw (part_is, few_is, rate_is) refl

pub product_fits : (c mass rest rate : ℕ) → c ≤ rest → rate ≡ mass * 79228162514264337593543950336 / rest → mass ≤ 2147483648 → c * rate / 18446744073709551616 ≤ 9223372036854775808
product_fits c mass rest rate within rate_is small =
    let unit : mass * 79228162514264337593543950336 ≡ mass * 4294967296 * 18446744073709551616 = omega arith in
    omega (arith, small, near_fits 18446744073709551616 c (mass * 4294967296) rest rate (c * rate / 18446744073709551616) (omega arith) within (rate_is ∙ ap (λ x. x / rest) unit) refl)

pub estimate_fits : (limit mass rest c : ℕ) → kept limit c ≤ rest → mass ≤ 2147483648 → share_estimate limit mass rest c ≤ 9223372041149743104
estimate_fits limit mass rest c within small =
    let rate : ℕ = mass * 79228162514264337593543950336 / rest in
    omega (arith, sym (estimate_of limit mass rest c (kept limit c) (raised limit c) rate refl refl refl), product_fits (kept limit c) mass rest rate within refl small, raised_few limit c)

-- the quotient of an share_estimate and a lift, where nothing is just below the bound
kept_rounded : (k mass rest f lift bound : ℕ) → 0 < rest → bound + lift ≡ 4294967296 → IsNear k (mass * 4294967296) rest f → (f + lift) % 4294967296 < 4294967295
    → (bound * rest ≤ k * mass % rest * 4294967296 → (f + lift) / 4294967296 ≡ k * mass / rest + 1) × (k * mass % rest * 4294967296 < bound * rest → (f + lift) / 4294967296 ≡ k * mass / rest)
kept_rounded k mass rest f lift bound some parts near clear =
    let w : ℕ = (f + lift) / 4294967296 in
    let l : ℕ = (f + lift) % 4294967296 in
    let q : ℕ = k * mass / rest in
    let r : ℕ = k * mass % rest in
    let shared : q * rest + r ≡ k * mass = div-add-mod' (k * mass) rest in
    let split : w * 4294967296 + l ≡ f + lift = omega arith in
    let all : (w * 4294967296 + l) * rest ≡ (f + lift) * rest = ap (λ x. x * rest) split in
    let one : (bound + lift) * rest ≡ 4294967296 * rest = ap (λ x. x * rest) parts in
    let room : (l + 2) * rest ≤ 4294967296 * rest = mul-le-mul_right rest (omega (arith, clear)) in
    between w q rest r (bound * rest) some (mod_below (k * mass) rest some) (omega (arith, one)) (omega (arith, shared, all, one, near.low)) (omega (arith, shared, all, one, near.high, room))

pub rounded_is : (limit mass rest bound lift c : ℕ) → 0 < rest → bound + lift ≡ 4294967296 → c < 18446744073709551616 → (share_estimate limit mass rest c + lift) % 4294967296 < 4294967295 → rounded_share lift (share_estimate limit mass rest c) ≡ whole limit mass rest c + up limit mass rest bound c
unfolding rounded_share
rounded_is limit mass rest bound lift c some parts fits clear =
    let rate : ℕ = mass * 79228162514264337593543950336 / rest in
    let k : ℕ = kept limit c in
    let f : ℕ = k * rate / 18446744073709551616 in
    let e = estimate_of limit mass rest c k (raised limit c) rate refl refl refl in
    let is : f + raised limit c * 4294967296 ≡ share_estimate limit mass rest c = e in
    let near : IsNear k (mass * 4294967296) rest f = estimate_near k mass rest rate some (omega (arith, kept_le limit c, fits)) refl in
    let made = kept_rounded k mass rest f lift bound some parts near (omega (arith, is, clear)) in
    let lifted : (share_estimate limit mass rest c + lift) / 4294967296 ≡ raised limit c + (f + lift) / 4294967296 = omega (arith, is) in
    let wholes = divided_whole limit mass rest c k (raised limit c) (k * mass / rest) some refl refl refl in
    let overs = divided_over limit mass rest c k (k * mass % rest) some refl refl in
    elim (cases_lt (over limit mass rest c * 4294967296) (bound * rest)) [
      | inl less ↦ omega (arith, lifted, wholes, made.1 (omega (arith, overs, less)), up_no limit mass rest bound c less)
      | inr more ↦ omega (arith, lifted, wholes, made.0 (omega (arith, overs, more)), up_yes limit mass rest bound c more)
    ]

-- ---- all
pub are_rounded : (xs ws : List ℕ) (limit mass rest all bound : ℕ) → 0 < rest → 1 ≤ bound → length ws ≡ length xs → sum ws ≡ all → ((k : ℕ) → k < length xs → slice_index ws k ≡ whole limit mass rest (slice_index xs k) + up limit mass rest bound (slice_index xs k))
    → AreRounded xs limit mass rest all ws
are_rounded xs ws limit mass rest all bound some any long total each = record {
  len = long;
  total = total;
  least = λ k h. omega (arith, each k h);
  most = λ k h. omega (arith, each k h, up_some (slice_index xs k));
  first = λ i j hi hj got without. inl (less (slice_index xs i) (slice_index xs j) (omega (arith, each i hi, without)) (omega (arith, each j hj, got)));
}
  where
    scaled : rest ≤ bound * rest
    scaled = omega (arith, mul-le-mul_right rest any)

    up_some : (c : ℕ) → up limit mass rest bound c ≤ some_over limit mass rest c
    up_some c = elim (cases_lt (over limit mass rest c * 4294967296) (bound * rest)) [
      | inl under ↦ omega (arith, up_no limit mass rest bound c under)
      | inr reached ↦ omega (arith, up_yes limit mass rest bound c reached, some_over_yes limit mass rest c (omega (arith, reached, scaled, some)))
    ]

    less : (a b : ℕ) → up limit mass rest bound a ≡ 0 → 0 < up limit mass rest bound b → over limit mass rest a < over limit mass rest b
    less a b none one =
        let high : bound * rest ≤ over limit mass rest b * 4294967296 = elim (cases_lt (over limit mass rest b * 4294967296) (bound * rest)) [
          | inl under ↦ absurd (omega (arith, one, up_no limit mass rest bound b under))
          | inr reached ↦ reached
        ] in
        let low : over limit mass rest a * 4294967296 < bound * rest = elim (cases_lt (over limit mass rest a * 4294967296) (bound * rest)) [
          | inl under ↦ under
          | inr reached ↦ absurd (omega (arith, none, up_yes limit mass rest bound a reached))
        ] in
        omega (arith, high, low)

sum_of_map : (f : ℕ → ℕ) (xs : List ℕ) → sum (map f xs) ≡ sum_by f xs
sum_of_map f [] = refl
sum_of_map f (x ∷ xs) = omega (arith, sum_by-cons (λ (y : ℕ). y) (f x) (map f xs), sum_by-cons f x xs, sum_of_map f xs)

pub estimates_rounded : (xs es ws : List ℕ) (limit mass rest all bound lift total : ℕ) → 0 < rest → 1 ≤ bound → bound + lift ≡ 4294967296 → es ≡ map (share_estimate limit mass rest) xs → ws ≡ map (rounded_share lift) es → total ≡ sum_by (rounded_share lift) es → total ≡ all
    → ((k : ℕ) → k < length es → (slice_index es k + lift) % 4294967296 < 4294967295) → ((k : ℕ) → slice_index xs k < 18446744073709551616) → AreRounded xs limit mass rest all ws
estimates_rounded xs es ws limit mass rest all bound lift total some any parts es_is ws_is total_is all_is clear words =
    let long : length es ≡ length xs = ap length es_is ∙ length-map xs (share_estimate limit mass rest) in
    are_rounded xs ws limit mass rest all bound some any (ap length ws_is ∙ (length-map es (rounded_share lift) ∙ long)) (ap sum ws_is ∙ (sum_of_map (rounded_share lift) es ∙ (sym total_is ∙ all_is)))
    (λ k h.
    let here : slice_index es k ≡ share_estimate limit mass rest (slice_index xs k) = ap (λ l. slice_index l k) es_is ∙ get_or-map (share_estimate limit mass rest) xs k 0 0 h in
    let made : slice_index ws k ≡ rounded_share lift (slice_index es k) = ap (λ l. slice_index l k) ws_is ∙ get_or-map (rounded_share lift) es k 0 0 (omega (arith, h, long)) in
    made ∙ (ap (rounded_share lift) here ∙ rounded_is limit mass rest bound lift (slice_index xs k) some parts (words k) (rw here at (clear k (omega (arith, h, long))))))

pub estimates_fit : (xs es : List ℕ) (limit mass rest : ℕ) → es ≡ map (share_estimate limit mass rest) xs → sum_by (kept limit) xs ≤ rest → mass ≤ 2147483648 → (k : ℕ) → k < length es → slice_index es k ≤ 9223372041149743104
estimates_fit xs es limit mass rest es_is within small k h =
    let inside : k < length xs = omega (arith, h, ap length es_is, length-map xs (share_estimate limit mass rest)) in
    let here : slice_index es k ≡ share_estimate limit mass rest (slice_index xs k) = ap (λ l. slice_index l k) es_is ∙ get_or-map (share_estimate limit mass rest) xs k 0 0 inside in
    omega (arith, here, estimate_fits limit mass rest (slice_index xs k) (omega (arith, get_or-le-sum_by (kept limit) xs k 0 inside, within)) small)

pub rounded_here : (lift share : ℕ) → (share + lift) / 4294967296 ≡ rounded_share lift share
unfolding rounded_share
rounded_here lift share = refl
