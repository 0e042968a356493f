-- Lengths for the trees of a set that is merged: of lists of lengths that keep Kraft's bound none costs less than the unions weigh.
use Rattle.std.proofs.Common.{◌≡◌, ◌+◌, ◌-◌, ◌*◌, ◌^◌, ◌<◌, ◌≤◌, ltb, ℕ, zero, suc, Bool, true, false, List, [], ◌∷◌, ap, sym, inl, inr, refl, ◌∙◌, arith, if◌then◌else◌, length, pow-add, pow_pos, subst, mul-le-mul_left, le_of_lt}
use native.Mathlib.Nat.{lt_of_mul-lt-mul_left}
use Rattle.std.proofs.lemmas.Bool.{cond_both, ltb-true, ltb-false, eqb-true, or_cases, or_parts, and_parts}
use Rattle.constriction_symbol.specs.Huffman.{Weighed, comes_before, put_in, united}
use Rattle.constriction_symbol.proofs.HuffmanMerge.{length_put}

-- the sum of weight times length
abbrev pub spent : List Weighed → List ℕ → ℕ
spent [] ls = 0
spent (x ∷ xs) [] = 0
spent (x ∷ xs) (l ∷ ls) = x.weight * l + spent xs ls

-- the sum of 2 ^ (most - l)
abbrev pub kraft : ℕ → List ℕ → ℕ
kraft most [] = 0
kraft most (l ∷ ls) = 2 ^ (most - l) + kraft most ls

abbrev pub AreAtMost : ℕ → List ℕ → Type 0
AreAtMost most [] = Unit {0}
AreAtMost most (l ∷ ls) = (l ≤ most) × AreAtMost most ls

-- each is at most the one before it
abbrev pub AreDescending : ℕ → List ℕ → Type 0
AreDescending most [] = Unit {0}
AreDescending most (l ∷ ls) = (l ≤ most) × AreDescending l ls

-- each weight is at least the one before it
abbrev pub AreAscending : ℕ → List Weighed → Type 0
AreAscending least [] = Unit {0}
AreAscending least (x ∷ xs) = (least ≤ x.weight) × AreAscending x.weight xs

pub at_most_more : (m n : ℕ) (ls : List ℕ) → m ≤ n → AreAtMost m ls → AreAtMost n ls
at_most_more m n [] more all = tt
at_most_more m n (l ∷ ls) more all = (omega (arith, more, all.0), at_most_more m n ls more all.1)

descending_at_most : (m : ℕ) (ls : List ℕ) → AreDescending m ls → AreAtMost m ls
descending_at_most m [] all = tt
descending_at_most m (l ∷ ls) all = (all.0, at_most_more l m ls all.0 (descending_at_most l ls all.1))

ascending_less : (m n : ℕ) (xs : List Weighed) → n ≤ m → AreAscending m xs → AreAscending n xs
ascending_less m n [] less all = tt
ascending_less m n (x ∷ xs) less all = (omega (arith, less, all.0), all.1)

-- one length more in a descending list
abbrev put_down : ℕ → List ℕ → List ℕ
put_down l [] = l ∷ []
put_down l (m ∷ ms) = if ltb l m then m ∷ put_down l ms else l ∷ m ∷ ms

abbrev sorted_down : List ℕ → List ℕ
sorted_down [] = []
sorted_down (l ∷ ls) = put_down l (sorted_down ls)

length_put_down : (l : ℕ) (ls : List ℕ) → length (put_down l ls) ≡ suc (length ls)
length_put_down l [] = refl
length_put_down l (m ∷ ms) = cond_both (ltb l m) (m ∷ put_down l ms) (l ∷ m ∷ ms) (λ ls. length ls ≡ suc (length (m ∷ ms))) (λ _. ap suc (length_put_down l ms)) (λ _. refl)

length_sorted : (ls : List ℕ) → length (sorted_down ls) ≡ length ls
length_sorted [] = refl
length_sorted (l ∷ ls) = length_put_down l (sorted_down ls) ∙ ap suc (length_sorted ls)

kraft_put_down : (most l : ℕ) (ls : List ℕ) → kraft most (put_down l ls) ≡ 2 ^ (most - l) + kraft most ls
kraft_put_down most l [] = refl
kraft_put_down most l (m ∷ ms) =
    cond_both (ltb l m) (m ∷ put_down l ms) (l ∷ m ∷ ms) (λ ls. kraft most ls ≡ 2 ^ (most - l) + kraft most (m ∷ ms)) (λ _. omega (arith, kraft_put_down most l ms)) (λ _. refl)

kraft_sorted : (most : ℕ) (ls : List ℕ) → kraft most (sorted_down ls) ≡ kraft most ls
kraft_sorted most [] = refl
kraft_sorted most (l ∷ ls) = kraft_put_down most l (sorted_down ls) ∙ ap (λ k. 2 ^ (most - l) + k) (kraft_sorted most ls)

descending_put_down : (most l : ℕ) (ls : List ℕ) → l ≤ most → AreDescending most ls → AreDescending most (put_down l ls)
descending_put_down most l [] low all = (low, tt)
descending_put_down most l (m ∷ ms) low all =
    cond_both (ltb l m) (m ∷ put_down l ms) (l ∷ m ∷ ms) (AreDescending most) (λ less. (all.0, descending_put_down m l ms (omega (arith, ltb-true l m less)) all.1)) (λ more. (low, (ltb-false l m more, all.1)))

descending_sorted : (most : ℕ) (ls : List ℕ) → AreAtMost most ls → AreDescending most (sorted_down ls)
descending_sorted most [] all = tt
descending_sorted most (l ∷ ls) all = descending_put_down most l (sorted_down ls) all.0 (descending_sorted most ls all.1)

-- the lesser weight gets the greater length
exchanged : (a d l e : ℕ) → a * (l + e) + (a + d) * l ≤ a * l + (a + d) * (l + e)
exchanged a d l e = omega arith

exchange : (a b l m : ℕ) → a ≤ b → l ≤ m → a * m + b * l ≤ a * l + b * m
exchange a b l m low short =
    let weight : a + (b - a) ≡ b = omega (arith, low) in
    let length : l + (m - l) ≡ m = omega (arith, short) in
    rw (weight, length) at (exchanged a (b - a) l (m - l))

spent_put_down : (x : Weighed) (xs : List Weighed) (l : ℕ) (ls : List ℕ) → AreAscending x.weight xs → length ls ≡ length xs → spent (x ∷ xs) (put_down l ls) ≤ x.weight * l + spent xs ls
spent_put_down x xs l [] up same = omega arith
spent_put_down x [] l (m ∷ ms) up same = absurd (omega (arith, same))
spent_put_down x (y ∷ ys) l (m ∷ ms) up same =
    cond_both (ltb l m) (m ∷ put_down l ms) (l ∷ m ∷ ms) (λ ls. spent (x ∷ y ∷ ys) ls ≤ x.weight * l + spent (y ∷ ys) (m ∷ ms))
    (λ less. omega (arith, exchange x.weight y.weight l m up.0 (omega (arith, ltb-true l m less)), spent_put_down y ys l ms up.1 (omega (arith, same))))
    (λ _. omega arith)

-- the greater lengths at the lesser weights cost no more
spent_sorted : (least : ℕ) (xs : List Weighed) (ls : List ℕ) → AreAscending least xs → length ls ≡ length xs → spent xs (sorted_down ls) ≤ spent xs ls
spent_sorted least [] [] up same = omega arith
spent_sorted least [] (l ∷ ls) up same = omega arith
spent_sorted least (x ∷ xs) [] up same = omega arith
spent_sorted least (x ∷ xs) (l ∷ ls) up same =
    let rest = spent_sorted x.weight xs ls up.1 (omega (arith, same)) in
    let put = spent_put_down x xs l (sorted_down ls) up.1 (length_sorted ls ∙ omega (arith, same)) in
    omega (arith, rest, put)

-- Kraft's sum by a greater power
kraft_scaled : (m d : ℕ) (ls : List ℕ) → AreAtMost m ls → kraft (m + d) ls ≡ 2 ^ d * kraft m ls
kraft_scaled m d [] all = omega arith
kraft_scaled m d (l ∷ ls) all =
    let exponent : m + d - l ≡ d + (m - l) = omega (arith, all.0) in
    let power : 2 ^ (m + d - l) ≡ 2 ^ d * 2 ^ (m - l) = ap (λ k. 2 ^ k) exponent ∙ pow-add 2 d (m - l) in
    omega (arith, power, kraft_scaled m d ls all.1)

-- the two greatest lengths as the second of them
room_for_two : (most l m : ℕ) (ls : List ℕ) → m ≤ most → AreAtMost m ls → kraft most (l ∷ m ∷ ls) ≤ 2 ^ most → 2 + kraft m ls ≤ 2 ^ m
room_for_two most l m ls low all bound =
    let d = most - m in
    let whole : m + d ≡ most = omega (arith, low) in
    let same : 2 ^ 0 ≡ 1 = refl in
    let none : m - m ≡ 0 = omega arith in
    let scaled : kraft most (m ∷ ls) ≡ 2 ^ d * kraft m (m ∷ ls) = subst (λ k. kraft k (m ∷ ls) ≡ 2 ^ d * kraft m (m ∷ ls)) whole (kraft_scaled m d (m ∷ ls) (omega arith, all)) in
    let power : 2 ^ most ≡ 2 ^ d * 2 ^ m = ap (λ k. 2 ^ k) (omega (arith, whole)) ∙ pow-add 2 d m in
    let less : 2 ^ d * kraft m (m ∷ ls) < 2 ^ d * 2 ^ m = omega (arith, scaled, power, bound, pow_pos (most - l)) in
    let one : 2 ^ (m - m) ≡ 1 = ap (λ k. 2 ^ k) none in
    omega (arith, one, lt_of_mul-lt-mul_left (2 ^ d) less)

-- a length beside a tree that is put in
pub put_beside : Weighed → ℕ → List Weighed → List ℕ → List ℕ
put_beside x l [] ls = l ∷ ls
put_beside x l (y ∷ ys) [] = l ∷ []
put_beside x l (y ∷ ys) (m ∷ ms) = if comes_before x y then l ∷ m ∷ ms else m ∷ put_beside x l ys ms

chosen_both : {A B : Type 0} (b : Bool) (x y : A) (u v : B) (P : A → B → Type 0) → P x u → P y v → P (if b then x else y) (if b then u else v)
chosen_both true x y u v P first second = first
chosen_both false x y u v P first second = second

pub length_beside : (x : Weighed) (l : ℕ) (xs : List Weighed) (ls : List ℕ) → length ls ≡ length xs → length (put_beside x l xs ls) ≡ length xs + 1
unfolding put_beside
length_beside x l [] ls same = omega (arith, same)
length_beside x l (y ∷ ys) [] same = absurd (omega (arith, same))
length_beside x l (y ∷ ys) (m ∷ ms) same =
    cond_both (comes_before x y) (l ∷ m ∷ ms) (m ∷ put_beside x l ys ms) (λ ls. length ls ≡ length (y ∷ ys) + 1) (λ _. omega (arith, same))
    (λ _. omega (arith, length_beside x l ys ms (omega (arith, same))))

pub spent_beside : (x : Weighed) (l : ℕ) (xs : List Weighed) (ls : List ℕ) → length ls ≡ length xs → spent (put_in x xs) (put_beside x l xs ls) ≡ x.weight * l + spent xs ls
unfolding put_beside
spent_beside x l [] ls same = refl
spent_beside x l (y ∷ ys) [] same = absurd (omega (arith, same))
spent_beside x l (y ∷ ys) (m ∷ ms) same =
    chosen_both (comes_before x y) (x ∷ y ∷ ys) (y ∷ put_in x ys) (l ∷ m ∷ ms) (m ∷ put_beside x l ys ms) (λ xs ls. spent xs ls ≡ x.weight * l + spent (y ∷ ys) (m ∷ ms)) refl
    (omega (arith, spent_beside x l ys ms (omega (arith, same))))

pub kraft_beside : (most : ℕ) (x : Weighed) (l : ℕ) (xs : List Weighed) (ls : List ℕ) → length ls ≡ length xs → kraft most (put_beside x l xs ls) ≡ 2 ^ (most - l) + kraft most ls
unfolding put_beside
kraft_beside most x l [] ls same = refl
kraft_beside most x l (y ∷ ys) [] same = absurd (omega (arith, same))
kraft_beside most x l (y ∷ ys) (m ∷ ms) same =
    cond_both (comes_before x y) (l ∷ m ∷ ms) (m ∷ put_beside x l ys ms) (λ ls. kraft most ls ≡ 2 ^ (most - l) + kraft most (m ∷ ms)) (λ _. refl)
    (λ _. omega (arith, kraft_beside most x l ys ms (omega (arith, same))))

pub at_most_beside : (most : ℕ) (x : Weighed) (l : ℕ) (xs : List Weighed) (ls : List ℕ) → l ≤ most → AreAtMost most ls → AreAtMost most (put_beside x l xs ls)
unfolding put_beside
at_most_beside most x l [] ls low all = (low, all)
at_most_beside most x l (y ∷ ys) [] low all = (low, tt)
at_most_beside most x l (y ∷ ys) (m ∷ ms) low all =
    cond_both (comes_before x y) (l ∷ m ∷ ms) (m ∷ put_beside x l ys ms) (AreAtMost most) (λ _. (low, (all.0, all.1))) (λ _. (all.0, at_most_beside most x l ys ms low all.1))

before_weight : (x y : Weighed) → comes_before x y ≡ true → x.weight ≤ y.weight
before_weight x y is =
    elim (or_cases _ _ is) [
      | inl less ↦ le_of_lt (ltb-true x.weight y.weight less)
      | inr same ↦ omega (arith, eqb-true x.weight y.weight (and_parts _ _ same).0)
    ]

behind_weight : (x y : Weighed) → comes_before x y ≡ false → y.weight ≤ x.weight
behind_weight x y is = ltb-false x.weight y.weight (or_parts _ _ is).0

-- a set stays ascending
pub ascending_put : (least : ℕ) (x : Weighed) (xs : List Weighed) → least ≤ x.weight → AreAscending least xs → AreAscending least (put_in x xs)
ascending_put least x [] low up = (low, tt)
ascending_put least x (y ∷ ys) low up =
    cond_both (comes_before x y) (x ∷ y ∷ ys) (y ∷ put_in x ys) (AreAscending least) (λ before. (low, (before_weight x y before, up.1)))
    (λ behind. (up.0, ascending_put y.weight x ys (behind_weight x y behind) up.1))

-- what the unions weigh that merging makes
abbrev pub unions : ℕ → ℕ → List Weighed → ℕ
unions zero next set = 0
unions (suc n) next (x ∷ y ∷ set) = x.weight + y.weight + unions n (next + 1) (put_in (united x y next) set)
unions (suc n) next (x ∷ []) = 0
unions (suc n) next [] = 0

-- two of one length as their union, one bit shorter
merged_pair : (n next : ℕ) (x y : Weighed) (set : List Weighed) (most l m : ℕ) (ls : List ℕ) → length ls ≡ length set
    → AreDescending most (l ∷ m ∷ ls) → kraft most (l ∷ m ∷ ls) ≤ 2 ^ most
    → ((most : ℕ) (ls : List ℕ) → length ls ≡ length (put_in (united x y next) set) → AreAtMost most ls → kraft most ls ≤ 2 ^ most → unions n (next + 1) (put_in (united x y next) set) ≤ spent (put_in (united x y next) set) ls)
    → x.weight + y.weight + unions n (next + 1) (put_in (united x y next) set) ≤ spent (x ∷ y ∷ set) (l ∷ m ∷ ls)
merged_pair n next x y set most l m ls same down bound rest =
    let u = united x y next in
    let all : AreAtMost m ls = descending_at_most m ls down.1.1 in
    let room : 2 + kraft m ls ≤ 2 ^ m = room_for_two most l m ls (omega (arith, down.0, down.1.0)) all bound in
    let some : 0 < m = positive m (kraft m ls) room in
    let new = put_beside u (m - 1) set ls in
    let exponent : m - (m - 1) ≡ 1 = omega (arith, some) in
    let one : 2 ^ (m - (m - 1)) ≡ 2 = ap (λ k. 2 ^ k) exponent in
    let keeps : kraft m new ≤ 2 ^ m = omega (arith, kraft_beside m u (m - 1) set ls same, one, room) in
    let count : length new ≡ length (put_in u set) = length_beside u (m - 1) set ls same ∙ sym (length_put u set) in
    let found = rest m new count (at_most_beside m u (m - 1) set ls (omega arith) all) keeps in
    shorter x.weight y.weight l m (spent set ls) (unions n (next + 1) (put_in u set)) some down.1.0 (omega (arith, found, spent_beside u (m - 1) set ls same))
  where
    positive : (m k : ℕ) → 2 + k ≤ 2 ^ m → 0 < m
    positive zero k room = absurd (omega (arith, room))
    positive (suc m) k room = omega arith

    shorter : (a b l m s c : ℕ) → 0 < m → m ≤ l → c ≤ (a + b) * (m - 1) + s → a + b + c ≤ a * l + (b * m + s)
    shorter a b l m s c some long is =
        let whole : suc (m - 1) ≡ m = omega (arith, some) in
        let more : (a + b) * suc (m - 1) ≡ (a + b) + (a + b) * (m - 1) = omega arith in
        omega (arith, rw whole at more, mul-le-mul_left a long, is)

-- no lengths that keep Kraft's bound cost less than the unions weigh
pub unions_least : (n next : ℕ) (set : List Weighed) (most : ℕ) (ls : List ℕ) → AreAscending 0 set → length ls ≡ length set → AreAtMost most ls → kraft most ls ≤ 2 ^ most → unions n next set ≤ spent set ls
unions_least zero next set most ls up same all bound = omega arith
unions_least (suc n) next [] most ls up same all bound = omega arith
unions_least (suc n) next (x ∷ []) most ls up same all bound = omega arith
unions_least (suc n) next (x ∷ y ∷ set) most ls up same all bound =
    by_greatest (sorted_down ls) (length_sorted ls ∙ same) (descending_sorted most ls all) (omega (arith, kraft_sorted most ls, bound)) (spent_sorted 0 (x ∷ y ∷ set) ls up same)
    (λ most ls. unions_least n (next + 1) (put_in (united x y next) set) most ls (ascending_put 0 (united x y next) set (omega arith) (ascending_less y.weight 0 set (omega arith) up.1.1)))
  where
    by_greatest : (sorted : List ℕ) → length sorted ≡ length (x ∷ y ∷ set) → AreDescending most sorted → kraft most sorted ≤ 2 ^ most → spent (x ∷ y ∷ set) sorted ≤ spent (x ∷ y ∷ set) ls
        → ((most : ℕ) (ls : List ℕ) → length ls ≡ length (put_in (united x y next) set) → AreAtMost most ls → kraft most ls ≤ 2 ^ most → unions n (next + 1) (put_in (united x y next) set) ≤ spent (put_in (united x y next) set) ls)
        → x.weight + y.weight + unions n (next + 1) (put_in (united x y next) set) ≤ spent (x ∷ y ∷ set) ls
    by_greatest [] count down keeps less rest = absurd (omega (arith, count))
    by_greatest (l ∷ []) count down keeps less rest = absurd (omega (arith, count))
    by_greatest (l ∷ m ∷ sorted) count down keeps less rest = omega (arith, less, merged_pair n next x y set most l m sorted (omega (arith, count)) down keeps rest)
