-- A count's part of the mass by a product, and measures that others reach.
use Rattle.std.specs.Prelude.{◌≡◌, ℕ, zero, suc, ◌+◌, ◌-◌, ◌*◌, ◌/◌, ◌%◌, ◌<◌, ◌≤◌, List, [], ◌∷◌, ◌++◌, length, map, slice_index, take, ◌⊎◌}
use Rattle.std.specs.List.{sum_by}
use Rattle.std.specs.List.Sorted.{IsPermutation}
use Rattle.std.proofs.Common.{refl, sym, ap, ◌∙◌, inl, inr, arith, length-append}
use Rattle.std.proofs.Math.Nat.{mod-eq_of_lt, mul-le-mul_right, mul-le-mul_left, le_of_mul-le-mul_right, lt_of_mul-lt-mul_right, mul-add-mod_self_right}
use Rattle.std.proofs.lemmas.Bool.{cases_lt}
use Rattle.std.proofs.lemmas.Bool.Decides.{nat_tests}
use Rattle.std.proofs.lemmas.Nat.{mod_below, div-add-mod', div-mul-add}
use Rattle.std.proofs.lemmas.List.Sums.{sum_by-cons, sum_by-append, sum_by_more, sum_by_push}
use Rattle.std.proofs.lemmas.List.Sorted.{sum_by-IsPermutation, length_permutation}
use Rattle.constriction_models.specs.Counts.{over, from, same, some_over, reaches, Divides, Separates}
use Rattle.constriction_models.proofs.Sharing.{sum_same, sum_least, sum_nothing, sum_within, IsOneMore, over_below}

-- ---- a product in place of a division
-- the product is the whole part of a count's part, or one less
pub record IsNear (c mass rest near : ℕ) : Type 0 where
  pub low : near * rest ≤ c * mass
  pub high : c * mass < near * rest + rest + rest

pub is_near : (unit c mass rest rate near : ℕ) → 0 < rest → 0 < unit → c ≤ unit → rate ≡ mass * unit / rest → near ≡ c * rate / unit → IsNear c mass rest near
is_near unit c mass rest rate near some pos within rate_is near_is =
    let e : ℕ = mass * unit % rest in
    let f : ℕ = c * rate % unit in
    let rated : rate * rest + e ≡ mass * unit = rw rate_is (div-add-mod' (mass * unit) rest) in
    let e_low : e < rest = mod_below (mass * unit) rest some in
    let neared : near * unit + f ≡ c * rate = rw near_is (div-add-mod' (c * rate) unit) in
    let f_low : f < unit = mod_below (c * rate) unit pos in
    let all : c * (rate * rest + e) ≡ c * (mass * unit) = ap (λ y. c * y) rated in
    let part : (near * unit + f) * rest ≡ c * rate * rest = ap (λ y. y * rest) neared in
    let f_most : suc f * rest ≤ unit * rest = mul-le-mul_right rest f_low in
    let e_most : c * e ≤ unit * e = mul-le-mul_right e within in
    let e_all : unit * suc e ≤ unit * rest = mul-le-mul_left unit e_low in
    let low : near * rest * unit ≤ c * mass * unit = omega (arith, all, part) in
    let high : c * mass * unit < (near * rest + rest + rest) * unit = omega (arith, all, part, f_most, e_most, e_all) in
    record { low = le_of_mul-le-mul_right {k = unit} low pos; high = lt_of_mul-lt-mul_right unit high }

-- the products fit
pub rate_fits : (unit c mass rest rate : ℕ) → c ≤ rest → rate ≡ mass * unit / rest → c * rate ≤ mass * unit
rate_fits unit c mass rest rate within is =
    let rated : rate * rest + mass * unit % rest ≡ mass * unit = rw is (div-add-mod' (mass * unit) rest) in
    let most : c * rate ≤ rest * rate = mul-le-mul_right rate within in
    omega (arith, rated, most)

pub near_fits : (unit c mass rest rate near : ℕ) → 0 < unit → c ≤ rest → rate ≡ mass * unit / rest → near ≡ c * rate / unit → near ≤ mass
near_fits unit c mass rest rate near pos within is near_is =
    let neared : near * unit + c * rate % unit ≡ c * rate = rw near_is (div-add-mod' (c * rate) unit) in
    le_of_mul-le-mul_right {k = unit} (omega (arith, neared, rate_fits unit c mass rest rate within is)) pos

-- it is at most the mass, where the count is at most the rest
pub quotient_fits : (c mass rest : ℕ) → c ≤ rest → 0 < rest → c * mass / rest ≤ mass
quotient_fits c mass rest within some =
    let parts : c * mass / rest * rest + c * mass % rest ≡ c * mass = div-add-mod' (c * mass) rest in
    let most : c * mass ≤ rest * mass = mul-le-mul_right mass within in
    le_of_mul-le-mul_right {k = rest} (omega (arith, parts, most)) some

-- a quotient and what is over, from the multiples beside a number
pub quotient_of : (n d q : ℕ) → q * d ≤ n → n < q * d + d → q ≡ n / d
quotient_of n d q from below =
    let is : n ≡ q * d + (n - q * d) = omega arith in
    sym (ap (λ x. x / d) is ∙ div-mul-add q d (n - q * d) (omega arith))

pub over_of : (n d q : ℕ) → q * d ≤ n → n < q * d + d → n - q * d ≡ n % d
over_of n d q from below =
    let is : n ≡ q * d + (n - q * d) = omega arith in
    let little : n - q * d < d = omega arith in
    sym (ap (λ x. x % d) is ∙ (mul-add-mod_self_right q d (n - q * d) ∙ mod-eq_of_lt little))

-- ---- one measure
pub reach_few : (least x : ℕ) → reaches least x ≤ 1
unfolding reaches
reach_few least x = grind (arith, nat_tests)

pub reach_yes : (least x : ℕ) → least ≤ x → reaches least x ≡ 1
unfolding reaches
reach_yes least x h = grind (arith, nat_tests)

pub reach_no : (least x : ℕ) → x < least → reaches least x ≡ 0
unfolding reaches
reach_no least x h = grind (arith, nat_tests)

reach_falls : (least more x : ℕ) → least ≤ more → reaches more x ≤ reaches least x
unfolding reaches
reach_falls least more x h = grind (arith, nat_tests)

from_reach : (limit mass rest least c : ℕ) → from limit mass rest least c ≡ reaches least (over limit mass rest c)
unfolding from reaches
from_reach limit mass rest least c = refl

same_reach : (limit mass rest least c : ℕ) → reaches (least + 1) (over limit mass rest c) + same limit mass rest least c ≡ reaches least (over limit mass rest c)
unfolding reaches same
same_reach limit mass rest least c = grind (arith, nat_tests)

some_reach : (limit mass rest c : ℕ) → some_over limit mass rest c ≡ reaches 1 (over limit mass rest c)
unfolding some_over reaches
some_reach limit mass rest c = grind (arith, nat_tests)

-- ---- all
pub reach_less : (least more : ℕ) (xs : List ℕ) → least ≤ more → sum_by (reaches more) xs ≤ sum_by (reaches least) xs
reach_less least more xs h = sum_least (reaches more) (reaches least) xs (λ k _. reach_falls least more (slice_index xs k) h)

pub none_reach : (least : ℕ) (xs : List ℕ) → ((k : ℕ) → k < length xs → slice_index xs k < least) → sum_by (reaches least) xs ≡ 0
none_reach least xs below = sum_same (reaches least) (λ (x : ℕ). 0) xs (λ k h. reach_no least (slice_index xs k) (below k h)) ∙ sum_nothing xs

all_reach : (least : ℕ) (xs : List ℕ) → ((k : ℕ) → k < length xs → least ≤ slice_index xs k) → sum_by (reaches least) xs ≡ length xs
all_reach least [] from = refl
all_reach least (x ∷ xs) from = omega (arith, sum_by-cons (reaches least) x xs, reach_yes least x (from 0 (omega arith)), all_reach least xs (λ k h. from (suc k) (omega arith)))

pub froms_reach : (limit mass rest least : ℕ) (xs : List ℕ) → sum_by (reaches least) (map (over limit mass rest) xs) ≡ sum_by (from limit mass rest least) xs
froms_reach limit mass rest least [] = refl
froms_reach limit mass rest least (x ∷ xs) =
    omega (arith, sum_by-cons (reaches least) (over limit mass rest x) (map (over limit mass rest) xs), sum_by-cons (from limit mass rest least) x xs, from_reach limit mass rest least x, froms_reach limit mass rest least xs)

pub divides : (xs : List ℕ) (limit mass rest left least : ℕ) → Separates (map (over limit mass rest) xs) rest left least → Divides xs limit mass rest left least
divides xs limit mass rest left least is = record {
  some = is.some;
  within = is.within;
  enough = omega (arith, is.enough, froms_reach limit mass rest least xs);
  few = omega (arith, is.few, froms_reach limit mass rest (least + 1) xs);
}

pub overs_low : (limit mass rest : ℕ) (xs : List ℕ) → 0 < rest → (k : ℕ) → k < length (map (over limit mass rest) xs) → slice_index (map (over limit mass rest) xs) k < rest
overs_low limit mass rest [] some k h = absurd (omega arith)
overs_low limit mass rest (x ∷ xs) some zero h = over_below limit mass rest x some
overs_low limit mass rest (x ∷ xs) some (suc k) h = overs_low limit mass rest xs some k (omega arith)

-- ---- those between
pub record AreBetween (low high : ℕ) (xs near : List ℕ) : Type 0 where
  pub count : length near ≡ sum_by (reaches low) near
  pub parts : (least : ℕ) → low ≤ least → least ≤ high → sum_by (reaches least) near + sum_by (reaches high) xs ≡ sum_by (reaches least) xs

pub are_between : (xs near : List ℕ) (low high above : ℕ) → above ≡ sum_by (reaches high) xs → length near ≡ sum_by (reaches low) near → ((least : ℕ) → low ≤ least → least ≤ high → sum_by (reaches least) near + above ≡ sum_by (reaches least) xs) → AreBetween low high xs near
are_between xs near low high above is_above count parts = record { count = count; parts = λ least up down. omega (arith, is_above, parts least up down) }

pub is_between : (low high x : ℕ) → low ≤ high → (reaches low x ≡ reaches high x → ⊥) → (low ≤ x) × (x < high)
is_between low high x order other =
    elim (cases_lt x low) [
      | inl less ↦ absurd (other (reach_no low x less ∙ sym (reach_no high x (omega (arith, less, order)))))
      | inr from ↦ elim (cases_lt x high) [ inl below ↦ (from, below) | inr more ↦ absurd (other (reach_yes low x from ∙ sym (reach_yes high x more))) ]
    ]

pub not_between : (low high x : ℕ) → reaches low x ≡ reaches high x → (x < low) ⊎ (high ≤ x)
not_between low high x same =
    elim (cases_lt x low) [
      | inl less ↦ inl less
      | inr from ↦ elim (cases_lt x high) [ inl below ↦ absurd (omega (arith, same, reach_yes low x from, reach_no high x below)) | inr more ↦ inr more ]
    ]

pub one_between : (xs near : List ℕ) (low high i : ℕ) → AreBetween low high (take i xs) near → i < length xs → low ≤ slice_index xs i → slice_index xs i < high → AreBetween low high (take (i + 1) xs) (near ++ slice_index xs i ∷ [])
one_between xs near low high i are inside from below =
    let x : ℕ = slice_index xs i in
    record {
      count = omega (arith, are.count, length-append near (x ∷ []), sum_by_push (reaches low) near x, reach_yes low x from);
      parts = λ least up down. omega (arith, are.parts least up down, sum_by_push (reaches least) near x, sum_by_more (reaches least) xs i 0 inside, sum_by_more (reaches high) xs i 0 inside, reach_no high x below);
    }

pub none_between : (xs near : List ℕ) (low high i : ℕ) → AreBetween low high (take i xs) near → i < length xs → low ≤ high → (slice_index xs i < low) ⊎ (high ≤ slice_index xs i) → AreBetween low high (take (i + 1) xs) near
none_between xs near low high i are inside order (inl less) =
    let x : ℕ = slice_index xs i in
    record {
      count = are.count;
      parts = λ least up down. omega (arith, are.parts least up down, sum_by_more (reaches least) xs i 0 inside, sum_by_more (reaches high) xs i 0 inside, reach_no high x (omega (arith, less, order)), reach_no least x (omega (arith, less, up)));
    }
none_between xs near low high i are inside order (inr more) =
    let x : ℕ = slice_index xs i in
    record {
      count = are.count;
      parts = λ least up down. omega (arith, are.parts least up down, sum_by_more (reaches least) xs i 0 inside, sum_by_more (reaches high) xs i 0 inside, reach_yes high x more, reach_yes least x (omega (arith, more, down)));
    }

-- ---- the dividing one
pub record IsReached (xs : List ℕ) (count x : ℕ) : Type 0 where
  pub enough : count ≤ sum_by (reaches x) xs
  pub few : sum_by (reaches (x + 1)) xs < count

pub is_reached : (xs front back : List ℕ) (x count : ℕ) → IsPermutation xs (front ++ x ∷ back) → ((k : ℕ) → k < length front → slice_index front k ≤ x) → ((k : ℕ) → k < length back → x ≤ slice_index back k) → length front + count ≡ length xs → IsReached xs count x
is_reached xs front back x count moved low high long =
    let whole : List ℕ = front ++ x ∷ back in
    let size : length xs ≡ length front + (length back + 1) = sym (length_permutation xs whole moved) ∙ (length-append front (x ∷ back) ∙ omega arith) in
    let enough = sum_by-IsPermutation (reaches x) xs whole moved in
    let few = sum_by-IsPermutation (reaches (x + 1)) xs whole moved in
    let none = none_reach (x + 1) front (λ k h. omega (arith, low k h)) in
    let most = sum_within (reaches (x + 1)) 1 back (λ k h. reach_few (x + 1) (slice_index back k)) in
    record {
      enough = omega (arith, enough, sum_by-append (reaches x) front (x ∷ back), sum_by-cons (reaches x) x back, reach_yes x x (omega arith), all_reach x back high, size, long);
      few = omega (arith, few, sum_by-append (reaches (x + 1)) front (x ∷ back), sum_by-cons (reaches (x + 1)) x back, reach_no (x + 1) x (omega arith), none, most, size, long);
    }

-- those that exceed it stand behind it
pub exceeded_behind : (xs front back : List ℕ) (x : ℕ) → IsPermutation xs (front ++ x ∷ back) → ((k : ℕ) → k < length front → slice_index front k ≤ x) → sum_by (reaches (x + 1)) back ≡ sum_by (reaches (x + 1)) xs
exceeded_behind xs front back x moved low =
    let same = sum_by-IsPermutation (reaches (x + 1)) xs (front ++ x ∷ back) moved in
    let none = none_reach (x + 1) front (λ k h. omega (arith, low k h)) in
    omega (arith, same, sum_by-append (reaches (x + 1)) front (x ∷ back), sum_by-cons (reaches (x + 1)) x back, reach_no (x + 1) x (omega arith), none)

-- the one reached in a range that holds enough lies in it
in_range : (xs near : List ℕ) (low high left above least : ℕ) → low ≤ high → AreBetween low high xs near → above ≡ sum_by (reaches high) xs → above < left → left - above ≤ length near → IsReached near (left - above) least → (low ≤ least) × (least < high)
in_range xs near low high left above least order are is_above few enough is =
    let from : low ≤ least = elim (cases_lt least low) [
      | inl less ↦ absurd (omega (arith, reach_less (least + 1) low near (omega (arith, less)), are.count, is.few, enough))
      | inr more ↦ more
    ] in
    let below : least < high = elim (cases_lt least high) [
      | inl less ↦ less
      | inr more ↦ absurd (omega (arith, reach_less high least near more, are.parts high order (omega arith), is.enough, few))
    ] in
    (from, below)

-- a measure that separates those which get one more from the others, and how many with just this measure do
pub record IsDivider (xs : List ℕ) (rest left least ties : ℕ) : Type 0 where
  pub separates : Separates xs rest left least
  pub tied : sum_by (reaches (least + 1)) xs + ties ≡ left

pub divider_in : (xs near : List ℕ) (rest low high left above least ties : ℕ) → 1 ≤ low → low ≤ high → high ≤ rest → AreBetween low high xs near → above ≡ sum_by (reaches high) xs → above < left → left ≤ above + length near
    → left ≤ above + sum_by (reaches least) near → 0 < ties → sum_by (reaches (least + 1)) near + above + ties ≡ left → IsDivider xs rest left least ties
divider_in xs near rest low high left above least ties some order within are is_above few enough reached tied sums =
    let is : IsReached near (left - above) least = record { enough = omega (arith, reached); few = omega (arith, tied, sums) } in
    let range = in_range xs near low high left above least order are is_above few (omega (arith, enough)) is in
    let more = are.parts (least + 1) (omega (arith, range.0)) (omega (arith, range.1)) in
    record {
      separates = record {
        some = omega (arith, some, range.0);
        within = omega (arith, range.1, within);
        enough = omega (arith, are.parts least range.0 (omega (arith, range.1)), is_above, reached);
        few = omega (arith, more, is_above, sums);
      };
      tied = omega (arith, more, is_above, sums);
    }

-- among all
pub all_long : (xs near : List ℕ) (rest left : ℕ) → 0 < rest → ((k : ℕ) → k < length xs → slice_index xs k < rest) → left ≤ sum_by (reaches 1) xs → AreBetween 1 rest xs near → left ≤ length near
all_long xs near rest left some below enough are = omega (arith, enough, are.count, are.parts 1 (omega arith) (omega (arith, some)), none_reach rest xs below)

pub divider_among_all : (xs near : List ℕ) (rest left above least ties : ℕ) → 0 < rest → ((k : ℕ) → k < length xs → slice_index xs k < rest) → 0 < left → left ≤ sum_by (reaches 1) xs → AreBetween 1 rest xs near → above ≡ sum_by (reaches rest) xs
    → left ≤ above + sum_by (reaches least) near → 0 < ties → sum_by (reaches (least + 1)) near + above + ties ≡ left → IsDivider xs rest left least ties
divider_among_all xs near rest left above least ties some below any enough are is_above reached tied sums =
    divider_in xs near rest 1 rest left above least ties (omega arith) (omega (arith, some)) (omega arith) are is_above (omega (arith, is_above, none_reach rest xs below, any)) (omega (arith, all_long xs near rest left some below enough are)) reached tied sums

pub divider_of_nothing : (xs : List ℕ) (rest left : ℕ) → 0 < rest → ((k : ℕ) → k < length xs → slice_index xs k < rest) → left ≡ 0 → IsDivider xs rest left rest 0
divider_of_nothing xs rest left some below nothing =
    let none = none_reach (rest + 1) xs (λ k h. omega (arith, below k h)) in
    record {
      separates = record {
        some = some;
        within = omega arith;
        enough = omega (arith, nothing);
        few = omega (arith, none);
      };
      tied = omega (arith, none, nothing);
    }

-- ---- one more
pub one_more_of : (limit mass rest least c measure ties more fewer : ℕ) → measure ≡ over limit mass rest c → more + fewer ≡ reaches (least + 1) measure + ties → more ≤ reaches 1 measure → fewer ≤ ties
    → (0 < fewer → fewer + reaches least measure ≡ reaches (least + 1) measure + ties) → (0 < more → least ≤ measure) → (least < measure → 0 < more) → (measure ≡ least → 0 < ties → 0 < more) → (measure ≡ least → ties ≡ 0 → more ≡ 0)
    → IsOneMore limit mass rest least c ties more fewer
one_more_of limit mass rest least c measure ties more fewer is sums within less tied given above tie out =
    let all = rw is at sums in
    record {
      sum = omega (arith, all, from_reach limit mass rest (least + 1) c);
      within = omega (arith, rw is at within, some_reach limit mass rest c);
      fewer_is = less;
      taken = λ some. omega (arith, (rw is at tied) some, same_reach limit mass rest least c);
      given = rw is at given;
      above = rw is at above;
      tie = rw is at tie;
      out = rw is at out;
    }
