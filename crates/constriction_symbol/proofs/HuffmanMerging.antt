-- Merging by weights and indices: what is kept by a loop that takes the two least and puts their union in.
use Rattle.std.proofs.Common.{◌≡◌, ◌+◌, ◌-◌, ◌<◌, ◌≤◌, ◌==◌, ℕ, zero, suc, true, false, List, [], ◌∷◌, ◌++◌, ap, ap₂, sym, inl, inr, refl, ◌∙◌, ◌⊎◌, arith, if◌then◌else◌, length, map, sum, sum_by, IsPermutation, All, get_or, take, length-take, ltb, ltb-true, ltb-false, eqb-true, eq-eqb, ◌&&◌}
use Rattle.std.specs.Prelude.{⊤}
use Rattle.std.specs.List.{AllByRecursion}
use Rattle.std.proofs.lemmas.Bool.{cond_both, cases_eq, cases_lt, or_cases, or_parts, and_parts, and_cases, eqb-false}
use Rattle.std.proofs.lemmas.Bool.Decides.{eqb_tells}
use Rattle.std.proofs.lemmas.List.{get_or_append_left, get_or_push, length_push, take-append-le, take_at}
use Rattle.std.proofs.lemmas.List.Elements.{All-nil, All-head, All-tail, All-push, All-from_get_or}
use Rattle.std.proofs.lemmas.List.Sums.{sum_by-cons}
use Rattle.std.proofs.lemmas.List.Sorted.{sum_by-IsPermutation, sum_by_popped, sum_by_pushed, length_permutation}
use Rattle.constriction_symbol.specs.Huffman.{Tree, Weighed, comes_before, put_in, leaves_from, united, merged, children, IsTreeAt, IsNeither, IsRoot, IsUnion, AreUnions, keys_from, IsPairLe, IsMerged}
use Rattle.constriction_symbol.specs.Huffman.Tree.{Leaf}
use Rattle.constriction_symbol.proofs.HuffmanTrees.{tree_at_more}
use Rattle.constriction_symbol.proofs.HuffmanMerge.{sum_put, length_put, length_leaves}

-- what a queue holds of a tree
abbrev pub key : Weighed → ℕ × ℕ
key x = (x.weight, x.index)

-- the one is another than the other, and less by weight, and then by index
abbrev pub IsBefore : Weighed → Weighed → Type 0
IsBefore x y = (x.index ≡ y.index → ⊥) × ((x.weight < y.weight) ⊎ ((x.weight ≡ y.weight) × (x.index < y.index)))

-- each is before all that follow
abbrev pub IsOrdered : List Weighed → Type 0
IsOrdered [] = ⊤
IsOrdered (x ∷ xs) = AllByRecursion (IsBefore x) xs × IsOrdered xs

before_true : (x y : Weighed) → comes_before x y ≡ true → (x.index ≡ y.index → ⊥) → IsBefore x y
before_true x y is apart =
    elim (or_cases (ltb x.weight y.weight) ((x.weight == y.weight) && ltb x.index y.index) is) [
      | inl less ↦ (apart, inl (ltb-true x.weight y.weight less))
      | inr same ↦
          let both = and_parts (x.weight == y.weight) (ltb x.index y.index) same in
          (apart, inr (eqb-true x.weight y.weight both.0, ltb-true x.index y.index both.1))
    ]

before_false : (x y : Weighed) → comes_before x y ≡ false → (x.index ≡ y.index → ⊥) → IsBefore y x
before_false x y is apart =
    let both = or_parts (ltb x.weight y.weight) ((x.weight == y.weight) && ltb x.index y.index) is in
    let weights = ltb-false x.weight y.weight both.0 in (
      (λ same. apart (sym same)),
      elim (and_cases (x.weight == y.weight) (ltb x.index y.index) both.1) [
        | inl differ ↦ let other = eqb-false x.weight y.weight differ in inl (omega (arith, weights, other))
        | inr index ↦ order weights (ltb-false x.index y.index index)
      ],
    )
  where
    order : y.weight ≤ x.weight → y.index ≤ x.index → (y.weight < x.weight) ⊎ ((y.weight ≡ x.weight) × (y.index < x.index))
    order weights indices =
        elim (cases_lt y.weight x.weight) [
          | inl less ↦ inl less
          | inr more ↦ inr (omega (arith, weights, more), omega (arith, indices, apart))
        ]

before_before : (x y z : Weighed) → IsBefore x y → IsBefore y z → (x.index ≡ z.index → ⊥) → IsBefore x z
before_before x y z (first, inl less) (second, inl more) apart = (apart, inl (omega (arith, less, more)))
before_before x y z (first, inl less) (second, inr more) apart = (apart, inl (omega (arith, less, more.0)))
before_before x y z (first, inr less) (second, inl more) apart = (apart, inl (omega (arith, less.0, more)))
before_before x y z (first, inr less) (second, inr more) apart = (apart, inr (less.0 ∙ more.0, omega (arith, less.1, more.1)))

-- of each in a set
module _ (P : Weighed → Type 0) where
  pub each_put : (x : Weighed) (set : List Weighed) → P x → AllByRecursion P set → AllByRecursion P (put_in x set)
  each_put x [] one all = (one, tt)
  each_put x (y ∷ ys) one all = cond_both (comes_before x y) (x ∷ y ∷ ys) (y ∷ put_in x ys) (AllByRecursion P) (λ _. (one, all)) (λ _. (all.0, each_put x ys one all.1))

  pub each_weaker : (Q : Weighed → Type 0) → ((x : Weighed) → P x → Q x) → (set : List Weighed) → AllByRecursion P set → AllByRecursion Q set
  each_weaker Q weaker [] all = tt
  each_weaker Q weaker (x ∷ xs) all = (weaker x all.0, each_weaker Q weaker xs all.1)

each_both : (P Q R : Weighed → Type 0) → ((x : Weighed) → P x → Q x → R x) → (set : List Weighed) → AllByRecursion P set → AllByRecursion Q set → AllByRecursion R set
each_both P Q R both [] all other = tt
each_both P Q R both (x ∷ xs) all other = (both x all.0 other.0, each_both P Q R both xs all.1 other.1)

-- one more with an index of its own keeps the order
pub ordered_put : (x : Weighed) (set : List Weighed) → AllByRecursion (λ y. x.index ≡ y.index → ⊥) set → IsOrdered set → IsOrdered (put_in x set)
ordered_put x [] apart ordered = (tt, tt)
ordered_put x (y ∷ ys) apart ordered =
    cond_both (comes_before x y) (x ∷ y ∷ ys) (y ∷ put_in x ys) IsOrdered
    (λ is. let first = before_true x y is apart.0 in
    ((first, each_both (IsBefore y) (λ z. x.index ≡ z.index → ⊥) (IsBefore x) (λ z after other. before_before x y z first after other) ys ordered.0 apart.1), ordered))
    (λ is. (each_put (IsBefore y) x ys (before_false x y is apart.0) ordered.0, ordered_put x ys apart.1 ordered.1))

-- the pairs of both queues are those of a set: each sum over them is one
abbrev pub HoldsKeys : List (ℕ × ℕ) → List Weighed → Type 0
HoldsKeys items set = (f : ℕ × ℕ → ℕ) → sum_by f items ≡ sum_by (λ x. f (key x)) set

-- how far the one is above the other
abbrev excess : ℕ × ℕ → ℕ × ℕ → ℕ
excess p q = (p.0 - q.0) + (if p.0 == q.0 then p.1 - q.1 else 0)

excess_none : (p q : ℕ × ℕ) → IsPairLe p q → excess p q ≡ 0
excess_none p q le =
    elim (eqb_tells p.0 q.0) [
      | inl same ↦ let at = same.1 in rw same.0 (low at le)
      | inr other ↦ let apart : p.0 ≡ q.0 → ⊥ = other.1 in rw other.0 (high le)
    ]
  where
    low : p.0 ≡ q.0 → IsPairLe p q → p.0 - q.0 + (p.1 - q.1) ≡ 0
    low same (inl less) = omega (arith, same, less)
    low same (inr more) = omega (arith, more.0, more.1)

    high : IsPairLe p q → p.0 - q.0 + 0 ≡ 0
    high (inl less) = omega (arith, less)
    high (inr more) = omega (arith, more.0)

excess_same : (p q : ℕ × ℕ) → excess p q ≡ 0 → excess q p ≡ 0 → p ≡ q
excess_same p q one two =
    let weights : p.0 ≡ q.0 = omega (arith, one, two) in
    let first = rw (eq-eqb p.0 q.0 weights) at one in
    let second = rw (eq-eqb q.0 p.0 (sym weights)) at two in
    let indices : p.1 ≡ q.1 = omega (arith, first, second) in
    ap₂ (λ a b. (a, b)) weights indices

excess_items : (p : ℕ × ℕ) (items : List (ℕ × ℕ)) → All (IsPairLe p) items → sum_by (excess p) items ≡ 0
excess_items p [] all = refl
excess_items p (q ∷ items) all =
    omega (arith, sum_by-cons (excess p) q items, excess_none p q (All-head (IsPairLe p) q items all), excess_items p items (All-tail (IsPairLe p) q items all))

excess_set : (x : Weighed) (set : List Weighed) → AllByRecursion (IsBefore x) set → sum_by (λ y. excess (key x) (key y)) set ≡ 0
excess_set x [] all = refl
excess_set x (y ∷ set) all =
    omega (arith, sum_by-cons (λ z. excess (key x) (key z)) y set, excess_none (key x) (key y) (le all.0.1), excess_set x set all.1)
  where
    le : (x.weight < y.weight) ⊎ ((x.weight ≡ y.weight) × (x.index < y.index)) → IsPairLe (key x) (key y)
    le (inl less) = inl less
    le (inr same) = inr (same.0, omega (arith, same.1))

-- the least of the items is that of the set, and the others stay the same
pub least_taken : (items rest : List (ℕ × ℕ)) (a : ℕ × ℕ) (x : Weighed) (set : List Weighed) → HoldsKeys items (x ∷ set) → IsOrdered (x ∷ set) → IsPermutation items (a ∷ rest) → All (IsPairLe a) items
    → (a ≡ key x) × HoldsKeys rest set
least_taken items rest a x set same ordered popped least =
    let above = excess_items a items least in
    let up : excess a (key x) ≡ 0 = omega (arith, above, same (excess a), sum_by-cons (λ y. excess a (key y)) x set) in
    let none = excess_none (key x) (key x) (inr (refl, omega arith)) in
    let below = excess_set x set ordered.0 in
    let down : excess (key x) a ≡ 0 = omega (arith, none, below, same (excess (key x)), sum_by-cons (λ y. excess (key x) (key y)) x set, sum_by_popped (excess (key x)) a items rest popped) in
    let is = excess_same a (key x) up down in
    (is, λ f. omega (arith, same f, sum_by-cons (λ y. f (key y)) x set, sum_by_popped f a items rest popped, ap f is))

-- a tree that stands at its index, which is no child yet
pub record IsPlaced (n : ℕ) (pairs : List (ℕ × ℕ)) (x : Weighed) : Type 0 where
  pub below : x.index < n + length pairs
  pub root : IsRoot pairs x.index
  pub at : IsTreeAt n pairs x.index x.tree

-- one, if the index is the last below a number
abbrev pub is_last : ℕ → Weighed → ℕ
is_last next x = if x.index + 1 == next then 1 else 0

-- after these unions this set is left, whose keys the items are, and so many steps more end the merging
pub record IsMerging (weights : List ℕ) (items pairs : List (ℕ × ℕ)) (set : List Weighed) (left : ℕ) : Type 0 where
  pub result : merged left (length weights + length pairs) set ≡ merged (length weights) (length weights) (leaves_from 0 weights)
  pub within : length set ≤ left
  pub count : length set + length pairs ≡ length weights
  pub total : sum_by (λ x. x.weight) set ≡ sum weights
  pub ordered : IsOrdered set
  pub keys : HoldsKeys items set
  pub placed : AllByRecursion (IsPlaced (length weights) pairs) set
  pub newest : 0 < sum_by (is_last (length weights + length pairs)) set
  pub unions : AreUnions (length weights) pairs

-- the invariant of the loop, over the items that are left and the unions so far
abbrev pub Merging : List ℕ → List (ℕ × ℕ) → List (ℕ × ℕ) → Type 0
Merging weights items pairs = (set : List Weighed) × (left : ℕ) × IsMerging weights items pairs set left

abbrev leaf : ℕ → ℕ → Weighed
leaf weight index = record { weight = weight; index = index; tree = Leaf index }

leaves_above : (index : ℕ) (weights : List ℕ) → AllByRecursion (λ y. index ≤ y.index) (leaves_from index weights)
leaves_above index [] = tt
leaves_above index (weight ∷ weights) =
    each_put (λ y. index ≤ y.index) (leaf weight index) (leaves_from (index + 1) weights) (omega arith)
    (each_weaker (λ y. index + 1 ≤ y.index) (λ y. index ≤ y.index) (λ y above. omega (arith, above)) (leaves_from (index + 1) weights) (leaves_above (index + 1) weights))

leaves_ordered : (index : ℕ) (weights : List ℕ) → IsOrdered (leaves_from index weights)
leaves_ordered index [] = tt
leaves_ordered index (weight ∷ weights) =
    ordered_put (leaf weight index) (leaves_from (index + 1) weights)
    (each_weaker (λ y. index + 1 ≤ y.index) (λ y. index ≡ y.index → ⊥) (λ y above same. omega (arith, above, same)) (leaves_from (index + 1) weights) (leaves_above (index + 1) weights))
    (leaves_ordered (index + 1) weights)

leaves_placed : (n index : ℕ) (weights : List ℕ) → index + length weights ≤ n → AllByRecursion (IsPlaced n []) (leaves_from index weights)
leaves_placed n index [] within = tt
leaves_placed n index (weight ∷ weights) within =
    let low : index < n = omega (arith, within) in
    each_put (IsPlaced n []) (leaf weight index) (leaves_from (index + 1) weights) (record { below = omega (arith, low); root = All-nil (IsNeither index); at = (refl, low) })
    (leaves_placed n (index + 1) weights (omega (arith, within)))

leaves_keys : (f : ℕ × ℕ → ℕ) (index : ℕ) (weights : List ℕ) → sum_by f (keys_from index weights) ≡ sum_by (λ x. f (key x)) (leaves_from index weights)
leaves_keys f index [] = refl
leaves_keys f index (weight ∷ weights) =
    omega (arith, sum_by-cons f (weight, index) (keys_from (index + 1) weights), sum_put (λ x. f (key x)) (leaf weight index) (leaves_from (index + 1) weights), leaves_keys f (index + 1) weights)

leaves_total : (index : ℕ) (weights : List ℕ) → sum_by (λ x. x.weight) (leaves_from index weights) ≡ sum weights
leaves_total index [] = refl
leaves_total index (weight ∷ weights) =
    omega (arith, sum_by-cons (λ w. w) weight weights, sum_put (λ x. x.weight) (leaf weight index) (leaves_from (index + 1) weights), leaves_total (index + 1) weights)

last_here : (next : ℕ) (x : Weighed) → x.index + 1 ≡ next → is_last next x ≡ 1
last_here next x is = rw (eq-eqb (x.index + 1) next is) refl

leaves_last : (next index weight : ℕ) (weights : List ℕ) → index + length (weight ∷ weights) ≡ next → 0 < sum_by (is_last next) (leaves_from index (weight ∷ weights))
leaves_last next index weight [] is = omega (arith, sum_put (is_last next) (leaf weight index) [], last_here next (leaf weight index) (omega (arith, is)))
leaves_last next index weight (more ∷ weights) is =
    omega (arith, sum_put (is_last next) (leaf weight index) (leaves_from (index + 1) (more ∷ weights)), leaves_last next (index + 1) more weights (omega (arith, is)))

leaves_newest : (next : ℕ) (weights : List ℕ) → 0 < length weights → length weights ≡ next → 0 < sum_by (is_last next) (leaves_from 0 weights)
leaves_newest next [] some is = absurd (omega (arith, some))
leaves_newest next (weight ∷ weights) some is = leaves_last next 0 weight weights (omega (arith, is))

-- at the start: all weights with their indices
pub merging_start : (weights : List ℕ) (items : List (ℕ × ℕ)) → 0 < length weights → IsPermutation (keys_from 0 weights) items → Merging weights items []
merging_start weights items some all =
    let count = length_leaves 0 weights in (
      leaves_from 0 weights,
      length weights,
      record {
        result = ap (λ next. merged (length weights) next (leaves_from 0 weights)) (omega arith);
        within = omega (arith, count);
        count = omega (arith, count);
        total = leaves_total 0 weights;
        ordered = leaves_ordered 0 weights;
        keys = λ f. sum_by-IsPermutation f (keys_from 0 weights) items all ∙ leaves_keys f 0 weights;
        placed = leaves_placed (length weights) 0 weights (omega arith);
        newest = leaves_newest (length weights + 0) weights some (omega arith);
        unions = λ j none. absurd (omega (arith, none));
      },
    )

-- one union more
pub unions_more : (n : ℕ) (pairs : List (ℕ × ℕ)) (pair : ℕ × ℕ) → AreUnions n pairs → IsUnion n pairs pair → AreUnions n (pairs ++ pair ∷ [])
unions_more n pairs pair unions union j within =
    elim (cases_eq j (length pairs)) [
      | inl last ↦
          let front : take j (pairs ++ pair ∷ []) ≡ pairs = take_at pairs (pair ∷ []) j (sym last) in
          let here : get_or (pairs ++ pair ∷ []) j (0, 0) ≡ pair = get_or_push pairs pair (0, 0) j (sym last) in
          rw (front, here) union
      | inr before ↦
          let low : j < length pairs = omega (arith, before, within, length_push pairs pair) in
          let front : take j (pairs ++ pair ∷ []) ≡ take j pairs = take-append-le j pairs (pair ∷ []) (omega (arith, low)) in
          let here : get_or (pairs ++ pair ∷ []) j (0, 0) ≡ get_or pairs j (0, 0) = get_or_append_left pairs (pair ∷ []) (0, 0) j low in
          rw (front, here) (unions j low)
    ]

-- no child is above the unions
pub root_above : (n : ℕ) (pairs : List (ℕ × ℕ)) (index : ℕ) → AreUnions n pairs → n + length pairs ≤ index → IsRoot pairs index
root_above n pairs index unions above =
    All-from_get_or (IsNeither index) pairs (0, 0) (λ j within.
    let union = unions j within in
    let count = length-take j pairs in
    ((λ same. omega (arith, union.lesser_below, count, within, above, same)), (λ same. omega (arith, union.other_below, count, within, above, same))))

root_more : (pairs : List (ℕ × ℕ)) (pair : ℕ × ℕ) (index : ℕ) → IsRoot pairs index → (pair.0 ≡ index → ⊥) → (pair.1 ≡ index → ⊥) → IsRoot (pairs ++ pair ∷ []) index
root_more pairs pair index root lesser other = All-push (IsNeither index) pairs pair root (lesser, other)

placed_more : (n : ℕ) (pairs : List (ℕ × ℕ)) (x y z : Weighed) → IsPlaced n pairs z → IsBefore x z → IsBefore y z → IsPlaced n (pairs ++ (x.index, y.index) ∷ []) z
placed_more n pairs x y z placed first second = record {
  below = omega (arith, placed.below, length_push pairs (x.index, y.index));
  root = root_more pairs (x.index, y.index) z.index placed.root first.0 second.0;
  at = tree_at_more n pairs (x.index, y.index) z.index z.tree placed.at;
}

placed_union : (n : ℕ) (pairs : List (ℕ × ℕ)) (x y : Weighed) → AreUnions n pairs → IsPlaced n pairs x → IsPlaced n pairs y → IsPlaced n (pairs ++ (x.index, y.index) ∷ []) (united x y (n + length pairs))
placed_union n pairs x y unions first second =
    let pair : ℕ × ℕ = (x.index, y.index) in
    let next = n + length pairs in
    let more = length_push pairs pair in
    let here : children n (pairs ++ pair ∷ []) next ≡ pair = get_or_push pairs pair (0, 0) (next - n) (omega arith) in
    record {
      below = omega (arith, more);
      root = root_more pairs pair next (root_above n pairs next unions (omega arith)) (λ same. omega (arith, first.below, same)) (λ same. omega (arith, second.below, same));
      at = rw here (omega arith, omega (arith, more), first.below, second.below, tree_at_more n pairs pair x.index x.tree first.at, tree_at_more n pairs pair y.index y.tree second.at);
    }

placed_union_of : (weights : List ℕ) (items pairs : List (ℕ × ℕ)) (x y : Weighed) (set : List Weighed) (left : ℕ) → IsMerging weights items pairs (x ∷ y ∷ set) left → IsUnion (length weights) pairs (x.index, y.index)
placed_union_of weights items pairs x y set left m = record {
  lesser_below = m.placed.0.below;
  other_below = m.placed.1.0.below;
  apart = m.ordered.0.0.0;
  lesser_root = m.placed.0.root;
  other_root = m.placed.1.0.root;
}

-- one union more, of the first two of the set
step_of_set : (weights : List ℕ) (items rest new pairs : List (ℕ × ℕ)) (x y : Weighed) (set : List Weighed) (left : ℕ) → IsMerging weights items pairs (x ∷ y ∷ set) (suc left) → HoldsKeys rest set
    → IsPermutation ((x.weight + y.weight, length weights + length pairs) ∷ rest) new
    → IsMerging weights new (pairs ++ (x.index, y.index) ∷ []) (put_in (united x y (length weights + length pairs)) set) left
step_of_set weights items rest new pairs x y set left m same put =
    let n = length weights in
    let next = n + length pairs in
    let union = united x y next in
    let more = length_push pairs (x.index, y.index) in
    let up : n + length (pairs ++ (x.index, y.index) ∷ []) ≡ next + 1 = omega (arith, more) in
    let count = length_put union set in
    record {
      result = rw up m.result;
      within = omega (arith, count, m.within);
      count = omega (arith, count, more, m.count);
      total = omega (arith, m.total, sum_put (λ z. z.weight) union set, sum_by-cons (λ z. z.weight) x (y ∷ set), sum_by-cons (λ z. z.weight) y set);
      ordered = ordered_put union set (each_weaker (IsPlaced n pairs) (λ z. next ≡ z.index → ⊥) (λ z placed is. omega (arith, placed.below, is)) set m.placed.1.1) m.ordered.1.1;
      keys = λ f. omega (arith, same f, sum_by_pushed f (x.weight + y.weight, next) rest new put, sum_put (λ z. f (key z)) union set);
      placed = each_put (IsPlaced n (pairs ++ (x.index, y.index) ∷ [])) union set (placed_union n pairs x y m.unions m.placed.0 m.placed.1.0)
          (each_both (λ z. IsBefore x z × IsBefore y z) (IsPlaced n pairs) (IsPlaced n (pairs ++ (x.index, y.index) ∷ [])) (λ z after placed. placed_more n pairs x y z placed after.0 after.1) set
          (each_both (IsBefore x) (IsBefore y) (λ z. IsBefore x z × IsBefore y z) (λ z first second. (first, second)) set m.ordered.0.1 m.ordered.1.0) m.placed.1.1);
      newest = omega (arith, sum_put (is_last (n + length (pairs ++ (x.index, y.index) ∷ []))) union set, last_here (n + length (pairs ++ (x.index, y.index) ∷ [])) union (sym up));
      unions = unions_more n pairs (x.index, y.index) m.unions (placed_union_of weights items pairs x y set (suc left) m);
    }

ones : {X : Type 0} (xs : List X) → length xs ≡ sum_by (λ _. 1) xs
ones [] = refl
ones (x ∷ xs) = omega (arith, sum_by-cons (λ _. 1) x xs, ones xs)

same_count : (items : List (ℕ × ℕ)) (set : List Weighed) → HoldsKeys items set → length items ≡ length set
same_count items set same = ones items ∙ (same (λ _. 1) ∙ sym (ones set))

-- the items and the unions are as many as the weights
pub merging_count : (weights : List ℕ) (items pairs : List (ℕ × ℕ)) → Merging weights items pairs → length items + length pairs ≡ length weights
merging_count weights items pairs (set, left, m) = omega (arith, same_count items set m.keys, m.count)

-- there is an item
pub merging_some : (weights : List ℕ) (items pairs : List (ℕ × ℕ)) → Merging weights items pairs → 0 < length items
merging_some weights items pairs ([], left, m) = absurd (omega (arith, m.newest))
merging_some weights items pairs (x ∷ set, left, m) = omega (arith, same_count items (x ∷ set) m.keys)

-- the items weigh as much as the weights
pub merging_total : (weights : List ℕ) (items pairs : List (ℕ × ℕ)) → Merging weights items pairs → sum_by (λ p. p.0) items ≡ sum weights
merging_total weights items pairs (set, left, m) = m.keys (λ p. p.0) ∙ m.total

-- a union weighs no more than the weights
pub merging_fits : (weights : List ℕ) (items first second pairs : List (ℕ × ℕ)) (a b : ℕ × ℕ) → Merging weights items pairs → IsPermutation items (a ∷ first) → IsPermutation first (b ∷ second) → a.0 + b.0 ≤ sum weights
merging_fits weights items first second pairs a b merging one two =
    omega (arith, merging_total weights items pairs merging, sum_by_popped (λ p. p.0) a items first one, sum_by_popped (λ p. p.0) b first second two)

-- a step of the loop: the two least go out, and their union in
pub merging_step : (weights : List ℕ) (items first second new pairs : List (ℕ × ℕ)) (a b : ℕ × ℕ) → Merging weights items pairs → IsPermutation items (a ∷ first) → All (IsPairLe a) items → IsPermutation first (b ∷ second) → All (IsPairLe b) first
    → IsPermutation ((a.0 + b.0, length weights + length pairs) ∷ second) new → Merging weights new (pairs ++ (a.1, b.1) ∷ [])
merging_step weights items first second new pairs a b ([], left, m) one least two least₁ put = absurd (omega (arith, m.newest))
merging_step weights items first second new pairs a b (x ∷ [], left, m) one least two least₁ put =
    absurd (omega (arith, same_count items (x ∷ []) m.keys, length_permutation items (a ∷ first) one, length_permutation first (b ∷ second) two))
merging_step weights items first second new pairs a b (x ∷ y ∷ set, zero, m) one least two least₁ put = absurd (omega (arith, m.within))
merging_step weights items first second new pairs a b (x ∷ y ∷ set, suc left, m) one least two least₁ put =
    let lesser = least_taken items first a x (y ∷ set) m.keys m.ordered one least in
    let other = least_taken first second b y set lesser.1 m.ordered.1 two least₁ in
    let union = rw (lesser.0, other.0) at put in
    rw (lesser.0, other.0) (put_in (united x y (length weights + length pairs)) set, left, step_of_set weights items second new pairs x y set left m other.1 union)

-- at the end: the one that is left is the root of the tree
pub merging_done : (weights : List ℕ) (items pairs : List (ℕ × ℕ)) → Merging weights items pairs → length items ≡ 1 → (tree : Tree) × IsMerged weights pairs tree
merging_done weights items pairs ([], left, m) one = absurd (omega (arith, m.newest))
merging_done weights items pairs (x ∷ y ∷ set, left, m) one = absurd (omega (arith, same_count items (x ∷ y ∷ set) m.keys, one))
merging_done weights items pairs (x ∷ [], left, m) one =
    let index = last m.newest in (
      x.tree,
      record {
        is = ap (map (λ z. z.tree)) (sym m.result ∙ alone left);
        count = omega (arith, m.count);
        unions = m.unions;
        root = rw index at m.placed.0.root;
        at = rw index at m.placed.0.at;
      },
    )
  where
    alone : (k : ℕ) → merged k (length weights + length pairs) (x ∷ []) ≡ x ∷ []
    alone zero = refl
    alone (suc k) = refl

    last : 0 < sum_by (is_last (length weights + length pairs)) (x ∷ []) → x.index ≡ length weights + length pairs - 1
    last some =
        elim (eqb_tells (x.index + 1) (length weights + length pairs)) [
          | inl same ↦ omega (arith, same.1)
          | inr other ↦ absurd (omega (arith, rw other.0 at some))
        ]
