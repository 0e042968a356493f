-- Merging by two queues: the lesser of both heads is the least of all, and a union is no less than those before it.
use Rattle.std.proofs.Common.{◌≡◌, ◌+◌, ◌*◌, ◌<◌, ◌≤◌, ℕ, List, [], ◌∷◌, ◌++◌, ap, sym, inl, inr, refl, ◌∙◌, ◌⊎◌, arith, length, IsPermutation, All, Option, Some, None, append_assoc, get_or, map, subst, subst₂}
use Rattle.std.specs.Option.{IfSome, option_to_list}
use Rattle.std.proofs.lemmas.Bool.{cases_eq}
use Rattle.std.proofs.lemmas.List.Elements.{All-nil, All-cons, All-head, All-tail, All-append, All-push, All-weaker}
use Rattle.std.proofs.lemmas.List.Sorted.{All-permutation, IsPermutation-middle, IsPermutation-sym, IsPermutation-to_front}
use Rattle.constriction_symbol.specs.Huffman.{IsPairLe, keys_from}
use Rattle.constriction_symbol.specs.Queues.{AreQueues, AreRising}

-- it weighs so much at least, and a union twice that at most; its index is below the next one
abbrev pub IsInTurn : ℕ → ℕ → ℕ → ℕ × ℕ → Type 0
IsInTurn n next least p = (least ≤ p.0) × (p.1 < next) × ((p.1 < n) ⊎ (p.0 ≤ 2 * least))

le_le : (p q r : ℕ × ℕ) → IsPairLe p q → IsPairLe q r → IsPairLe p r
le_le p q r (inl less) (inl more) = inl (omega (arith, less, more))
le_le p q r (inl less) (inr more) = inl (omega (arith, less, more.0))
le_le p q r (inr less) (inl more) = inl (omega (arith, less.0, more))
le_le p q r (inr less) (inr more) = inr (less.0 ∙ more.0, omega (arith, less.1, more.1))

le_itself : (p : ℕ × ℕ) → IsPairLe p p
le_itself p = inr (refl, omega arith)

le_weight : (p q : ℕ × ℕ) → IsPairLe p q → p.0 ≤ q.0
le_weight p q (inl less) = omega (arith, less)
le_weight p q (inr same) = omega (arith, same.0)

-- by weight, and where weights are equal by index
le_from : (p q : ℕ × ℕ) → p.0 ≤ q.0 → p.1 ≤ q.1 → IsPairLe p q
le_from p q weight index = elim (cases_eq p.0 q.0) [ inl same ↦ inr (same, index) | inr other ↦ inl (omega (arith, weight, other)) ]

module _ {X : Type 0} (P : X → Type 0) where
  pub all_left : (xs ys : List X) → All P (xs ++ ys) → All P xs
  all_left [] ys all = All-nil P
  all_left (x ∷ xs) ys all = All-cons P x xs (All-head P x (xs ++ ys) all) (all_left xs ys (All-tail P x (xs ++ ys) all))

  pub all_right : (xs ys : List X) → All P (xs ++ ys) → All P ys
  all_right [] ys all = all
  all_right (x ∷ xs) ys all = all_right xs ys (All-tail P x (xs ++ ys) all)

  all_both : (Q R : X → Type 0) → ((x : X) → P x → Q x → R x) → (xs : List X) → All P xs → All Q xs → All R xs
  all_both Q R both [] all other = All-nil R
  all_both Q R both (x ∷ xs) all other = All-cons R x xs (both x (All-head P x xs all) (All-head Q x xs other)) (all_both Q R both xs (All-tail P x xs all) (All-tail Q x xs other))

pub least_rising : (p : ℕ × ℕ) (ps : List (ℕ × ℕ)) → AreRising (p ∷ ps) → All (IsPairLe p) (p ∷ ps)
least_rising p ps rise = All-cons (IsPairLe p) p ps (le_itself p) rise.0

pub rising_cons : (p q : ℕ × ℕ) (ps : List (ℕ × ℕ)) → IsPairLe p q → AreRising (q ∷ ps) → AreRising (p ∷ q ∷ ps)
rising_cons p q ps le rise = (All-weaker (IsPairLe q) (IsPairLe p) (λ r more. le_le p q r le more) (q ∷ ps) (least_rising q ps rise), rise)

keys_below : (from : ℕ) (weights : List ℕ) → All (λ p. p.1 < from + length weights) (keys_from from weights)
keys_below from [] = All-nil (λ p. p.1 < from + 0)
keys_below from (weight ∷ weights) =
    All-cons (λ p. p.1 < from + length (weight ∷ weights)) (weight, from) (keys_from (from + 1) weights) (omega arith)
    (All-weaker (λ p. p.1 < from + 1 + length weights) (λ p. p.1 < from + length (weight ∷ weights)) (λ p below. omega (arith, below)) (keys_from (from + 1) weights) (keys_below (from + 1) weights))

-- the queues at the start
pub queues_start : (n : ℕ) (weights : List ℕ) (leaves : List (ℕ × ℕ)) → length weights ≡ n → IsPermutation (keys_from 0 weights) leaves → AreRising leaves → AreQueues n leaves [] × All (IsInTurn n n 0) (leaves ++ [])
queues_start n weights leaves count all rise =
    let below : All (λ p. p.1 < n) leaves =
    All-permutation (λ p. p.1 < n) (keys_from 0 weights) leaves all (All-weaker (λ p. p.1 < 0 + length weights) (λ p. p.1 < n) (λ p low. omega (arith, low, count)) (keys_from 0 weights) (keys_below 0 weights)) in (
      record { leaves_rise = rise; unions_rise = tt; leaves_below = below; unions_above = All-nil (λ p. n ≤ p.1) },
      All-append (IsInTurn n n 0) leaves [] (All-weaker (λ p. p.1 < n) (IsInTurn n n 0) (λ p low. (omega arith, low, inl low)) leaves below) (All-nil (IsInTurn n n 0)),
    )

-- the first leaf is the least, where there is no union
pub least_of_leaves : (n : ℕ) (x : ℕ × ℕ) (leaves : List (ℕ × ℕ)) → AreQueues n (x ∷ leaves) [] → All (IsPairLe x) ((x ∷ leaves) ++ [])
least_of_leaves n x leaves queues = All-append (IsPairLe x) (x ∷ leaves) [] (least_rising x leaves queues.leaves_rise) (All-nil (IsPairLe x))

-- the first union is the least, where there is no leaf
pub least_of_unions : (n : ℕ) (u : ℕ × ℕ) (unions : List (ℕ × ℕ)) → AreQueues n [] (u ∷ unions) → All (IsPairLe u) ([] ++ (u ∷ unions))
least_of_unions n u unions queues = least_rising u unions queues.unions_rise

-- the first leaf is the least, where the first union weighs no less: the leaf's index is less
pub least_leaf : (n : ℕ) (x u : ℕ × ℕ) (leaves unions : List (ℕ × ℕ)) → AreQueues n (x ∷ leaves) (u ∷ unions) → x.0 ≤ u.0 → All (IsPairLe x) ((x ∷ leaves) ++ (u ∷ unions))
least_leaf n x u leaves unions queues low =
    let below : x.1 < n = All-head (λ p. p.1 < n) x leaves queues.leaves_below in
    let above : n ≤ u.1 = All-head (λ p. n ≤ p.1) u unions queues.unions_above in
    let first : IsPairLe x u = le_from x u low (omega (arith, below, above)) in
    All-append (IsPairLe x) (x ∷ leaves) (u ∷ unions) (least_rising x leaves queues.leaves_rise)
    (All-weaker (IsPairLe u) (IsPairLe x) (λ q more. le_le x u q first more) (u ∷ unions) (least_rising u unions queues.unions_rise))

-- the first union is the least, where it weighs less than the first leaf
pub least_union : (n : ℕ) (x u : ℕ × ℕ) (leaves unions : List (ℕ × ℕ)) → AreQueues n (x ∷ leaves) (u ∷ unions) → u.0 < x.0 → All (IsPairLe u) ((x ∷ leaves) ++ (u ∷ unions))
least_union n x u leaves unions queues low =
    All-append (IsPairLe u) (x ∷ leaves) (u ∷ unions)
    (All-weaker (IsPairLe x) (IsPairLe u) (λ q more. le_le u x q (inl low) more) (x ∷ leaves) (least_rising x leaves queues.leaves_rise)) (least_rising u unions queues.unions_rise)

pub leaf_taken : (n : ℕ) (x : ℕ × ℕ) (leaves unions : List (ℕ × ℕ)) → AreQueues n (x ∷ leaves) unions → AreQueues n leaves unions
leaf_taken n x leaves unions queues = record {
  leaves_rise = queues.leaves_rise.1;
  unions_rise = queues.unions_rise;
  leaves_below = All-tail (λ p. p.1 < n) x leaves queues.leaves_below;
  unions_above = queues.unions_above;
}

pub union_taken : (n : ℕ) (u : ℕ × ℕ) (leaves unions : List (ℕ × ℕ)) → AreQueues n leaves (u ∷ unions) → AreQueues n leaves unions
union_taken n u leaves unions queues = record {
  leaves_rise = queues.leaves_rise;
  unions_rise = queues.unions_rise.1;
  leaves_below = queues.leaves_below;
  unions_above = All-tail (λ p. n ≤ p.1) u unions queues.unions_above;
}

rising_push : (ps : List (ℕ × ℕ)) (q : ℕ × ℕ) → AreRising ps → All (λ p. IsPairLe p q) ps → AreRising (ps ++ q ∷ [])
rising_push [] q rise all = (All-nil (IsPairLe q), tt)
rising_push (p ∷ ps) q rise all =
    (All-push (IsPairLe p) ps q rise.0 (All-head (λ p. IsPairLe p q) p ps all), rising_push ps q rise.1 (All-tail (λ p. IsPairLe p q) p ps all))

-- the two least go out, and their union to the end of its queue: it is no less than the unions there, none of which weighs
-- more than twice the least of what was there
pub queues_step : (n next least : ℕ) (items first leaves unions : List (ℕ × ℕ)) (a b : ℕ × ℕ) → n ≤ next → All (IsInTurn n next least) items → IsPermutation items (a ∷ first) → All (IsPairLe a) items
    → IsPermutation first (b ∷ (leaves ++ unions)) → All (IsPairLe b) first → AreQueues n leaves unions
    → AreQueues n leaves (unions ++ (a.0 + b.0, next) ∷ []) × All (IsInTurn n (next + 1) b.0) (leaves ++ (unions ++ (a.0 + b.0, next) ∷ []))
queues_step n next least items first leaves unions a b room turn one lower two low queues =
    let c : ℕ × ℕ = (a.0 + b.0, next) in
    let all = All-permutation (IsInTurn n next least) items (a ∷ first) one turn in
    let rest = All-permutation (IsInTurn n next least) first (b ∷ (leaves ++ unions)) two (All-tail (IsInTurn n next least) a first all) in
    let of_a : IsInTurn n next least a = All-head (IsInTurn n next least) a first all in
    let of_b : IsInTurn n next least b = All-head (IsInTurn n next least) b (leaves ++ unions) rest in
    let left : All (IsInTurn n next least) (leaves ++ unions) = All-tail (IsInTurn n next least) b (leaves ++ unions) rest in
    let after : All (IsPairLe b) (leaves ++ unions) = All-tail (IsPairLe b) b (leaves ++ unions) (All-permutation (IsPairLe b) first (b ∷ (leaves ++ unions)) two low) in
    let lesser : a.0 ≤ b.0 = le_weight a b (All-head (IsPairLe a) b (leaves ++ unions) (All-permutation (IsPairLe a) first (b ∷ (leaves ++ unions)) two (All-tail (IsPairLe a) a first (All-permutation (IsPairLe a) items (a ∷ first) one lower)))) in
    let turned : All (IsInTurn n (next + 1) b.0) (leaves ++ unions) = all_both (IsInTurn n next least) (IsPairLe b) (IsInTurn n (next + 1) b.0) (in_turn of_b.0) (leaves ++ unions) left after in
    let union : IsInTurn n (next + 1) b.0 c = (omega arith, omega arith, inr (omega (arith, lesser))) in
    let rise : All (λ p. IsPairLe p c) unions = all_both (IsInTurn n next least) (λ p. n ≤ p.1) (λ p. IsPairLe p c) (before of_a.0 of_b.0) unions (all_right (IsInTurn n next least) leaves unions left) queues.unions_above in (
      record {
        leaves_rise = queues.leaves_rise;
        unions_rise = rising_push unions c queues.unions_rise rise;
        leaves_below = queues.leaves_below;
        unions_above = All-push (λ p. n ≤ p.1) unions c queues.unions_above room;
      },
      All-append (IsInTurn n (next + 1) b.0) leaves (unions ++ c ∷ []) (all_left (IsInTurn n (next + 1) b.0) leaves unions turned)
          (All-push (IsInTurn n (next + 1) b.0) unions c (all_right (IsInTurn n (next + 1) b.0) leaves unions turned) union),
    )
  where
    in_turn : least ≤ b.0 → (p : ℕ × ℕ) → IsInTurn n next least p → IsPairLe b p → IsInTurn n (next + 1) b.0 p
    in_turn more p turn above = (le_weight b p above, omega (arith, turn.1), either turn.2)
      where
        either : (p.1 < n) ⊎ (p.0 ≤ 2 * least) → (p.1 < n) ⊎ (p.0 ≤ 2 * b.0)
        either (inl below) = inl below
        either (inr light) = inr (omega (arith, light, more))

    before : least ≤ a.0 → least ≤ b.0 → (p : ℕ × ℕ) → IsInTurn n next least p → n ≤ p.1 → IsPairLe p (a.0 + b.0, next)
    before first second p turn above = le_from p (a.0 + b.0, next) (light turn.2) (omega (arith, turn.1))
      where
        light : (p.1 < n) ⊎ (p.0 ≤ 2 * least) → p.0 ≤ a.0 + b.0
        light (inl below) = absurd (omega (arith, below, above))
        light (inr low) = omega (arith, low, first, second)

-- a union that is put behind the others
pub union_put : (leaves unions : List (ℕ × ℕ)) (c : ℕ × ℕ) → IsPermutation (c ∷ (leaves ++ unions)) (leaves ++ (unions ++ c ∷ []))
union_put leaves unions c =
    subst (λ xs. IsPermutation (c ∷ (leaves ++ unions)) xs) (append_assoc leaves unions (c ∷ [])) (IsPermutation-sym ((leaves ++ unions) ++ c ∷ []) (c ∷ (leaves ++ unions)) (IsPermutation-to_front (leaves ++ unions) c))

-- the same of queues of items, each of which has a weight and an index, where the first goes out of one of them
module _ {X : Type 0} (key : X → ℕ × ℕ) where
  -- the first of a list that isn't empty
  first_of_some : (xs : List X) (x : X) → 0 < length xs → x ≡ get_or xs 0 x → (rest : List X) × (xs ≡ x ∷ rest)
  first_of_some [] x some is = absurd (omega (arith, some))
  first_of_some (y ∷ ys) x some is = (ys, ap (λ z. z ∷ ys) (sym is))

  pub leaf_goes : (leaves rest unions : List X) (taken : Option X) → leaves ≡ option_to_list taken ++ rest → (n : ℕ) → AreQueues n (map key leaves) (map key unions) → AreQueues n (map key rest) (map key unions)
  leaf_goes leaves rest unions None is n queues = subst (λ xs. AreQueues n (map key xs) (map key unions)) is queues
  leaf_goes leaves rest unions (Some x) is n queues = leaf_taken n (key x) (map key rest) (map key unions) (subst (λ xs. AreQueues n (map key xs) (map key unions)) is queues)

  pub union_goes : (leaves unions rest : List X) (taken : Option X) → unions ≡ option_to_list taken ++ rest → (n : ℕ) → AreQueues n (map key leaves) (map key unions) → AreQueues n (map key leaves) (map key rest)
  union_goes leaves unions rest None is n queues = subst (λ xs. AreQueues n (map key leaves) (map key xs)) is queues
  union_goes leaves unions rest (Some u) is n queues = union_taken n (key u) (map key leaves) (map key rest) (subst (λ xs. AreQueues n (map key leaves) (map key xs)) is queues)

  pub union_moves : (leaves unions rest : List X) (taken : Option X) → unions ≡ option_to_list taken ++ rest → IfSome taken (λ u. IsPermutation (map key leaves ++ map key unions) (key u ∷ (map key leaves ++ map key rest)))
  union_moves leaves unions rest None is = tt
  union_moves leaves unions rest (Some u) is =
      subst (λ xs. IsPermutation (map key leaves ++ map key xs) (key u ∷ (map key leaves ++ map key rest))) (sym is) (IsPermutation-middle (map key leaves) (key u) (map key rest))

  -- the first union is the least where there is no leaf
  pub union_without_leaves : (leaves unions rest : List X) (taken : Option X) → length leaves ≤ 0 → unions ≡ option_to_list taken ++ rest → (n : ℕ) × AreQueues n (map key leaves) (map key unions) → IfSome taken (λ u. All (IsPairLe (key u)) (map key leaves ++ map key unions))
  union_without_leaves (x ∷ leaves) unions rest taken none is queues = absurd (omega (arith, none))
  union_without_leaves [] unions rest None none is queues = tt
  union_without_leaves [] unions rest (Some u) none is (n, queues) =
      subst (λ xs. All (IsPairLe (key u)) (map key xs)) (sym is) (least_of_unions n (key u) (map key rest) (subst (λ xs. AreQueues n [] (map key xs)) is queues))

  -- the first leaf is the least where there is no union
  pub leaf_without_unions : (leaves rest unions : List X) (taken : Option X) → length unions ≤ 0 → leaves ≡ option_to_list taken ++ rest → (n : ℕ) × AreQueues n (map key leaves) (map key unions) → IfSome taken (λ x. All (IsPairLe (key x)) (map key leaves ++ map key unions))
  leaf_without_unions leaves rest (u ∷ unions) taken none is queues = absurd (omega (arith, none))
  leaf_without_unions leaves rest [] None none is queues = tt
  leaf_without_unions leaves rest [] (Some x) none is (n, queues) =
      subst (λ xs. All (IsPairLe (key x)) (map key xs ++ [])) (sym is) (least_of_leaves n (key x) (map key rest) (subst (λ xs. AreQueues n (map key xs) []) is queues))

  -- the first union is the least where it weighs less than the first leaf
  pub union_below_leaf : (leaves unions rest : List X) (taken : Option X) (x u : X) → 0 < length leaves → x ≡ get_or leaves 0 x → u ≡ get_or unions 0 u → (key u).0 < (key x).0 → unions ≡ option_to_list taken ++ rest
      → (n : ℕ) × AreQueues n (map key leaves) (map key unions) → IfSome taken (λ v. All (IsPairLe (key v)) (map key leaves ++ map key unions))
  union_below_leaf leaves unions rest None x u some first second low is queues = tt
  union_below_leaf leaves unions rest (Some v) x u some first second low is (n, queues) =
      let leaf = first_of_some leaves x some first in
      let same : u ≡ v = second ∙ ap (λ xs. get_or xs 0 u) is in
      let below : (key v).0 < (key x).0 = subst (λ w. (key w).0 < (key x).0) same low in
      subst₂ (λ xs ys. All (IsPairLe (key v)) (map key xs ++ map key ys)) (sym leaf.1) (sym is) (least_union n (key x) (key v) (map key leaf.0) (map key rest) (subst₂ (λ xs ys. AreQueues n (map key xs) (map key ys)) leaf.1 is queues) below)

  -- the first leaf is the least where the first union weighs no less
  pub leaf_below_union : (leaves rest unions : List X) (taken : Option X) (x u : X) → 0 < length unions → x ≡ get_or leaves 0 x → u ≡ get_or unions 0 u → (key x).0 ≤ (key u).0 → leaves ≡ option_to_list taken ++ rest
      → (n : ℕ) × AreQueues n (map key leaves) (map key unions) → IfSome taken (λ v. All (IsPairLe (key v)) (map key leaves ++ map key unions))
  leaf_below_union leaves rest unions None x u some first second low is queues = tt
  leaf_below_union leaves rest unions (Some v) x u some first second low is (n, queues) =
      let union = first_of_some unions u some second in
      let same : x ≡ v = first ∙ ap (λ xs. get_or xs 0 x) is in
      let below : (key v).0 ≤ (key u).0 = subst (λ w. (key w).0 ≤ (key u).0) same low in
      subst₂ (λ xs ys. All (IsPairLe (key v)) (map key xs ++ map key ys)) (sym is) (sym union.1) (least_leaf n (key v) (key u) (map key rest) (map key union.0) (subst₂ (λ xs ys. AreQueues n (map key xs) (map key ys)) is union.1 queues) below)
