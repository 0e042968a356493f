-- Three coders side by side, as rows of matrices.
use Rattle.std.proofs.Common.{◌≡◌, ◌∙◌, ℕ, ◌+◌, ◌*◌, ◌<◌, ◌≤◌, List, ◌++◌, length, drop, set, get_or, sym, ap, inl, inr, arith}
use Rattle.std.proofs.lemmas.Bool.{cases_lt}
use Rattle.std.proofs.lemmas.List.{drop-append-le, drop-drop, drop_all, get_or-set_other, get_or-set_same, get_or_read, length-set, take-append-le, take_all}
use Rattle.constriction_base.specs.Models.{Model, items_of}
use Rattle.constriction_stack.specs.Symbols.{DecodesAll}
use Rattle.constriction_interleaved.specs.Rows.{DecodesLanes, row}
use Rattle.constriction_stack.specs.Lanes.{lane}

-- the items of a list in which the first three were set
pub set_three : {A : Type 0} (xs : List A) (x y z d : A) → 2 < length xs
    → (get_or (set (set (set xs 0 x) 1 y) 2 z) 0 d ≡ x) × (get_or (set (set (set xs 0 x) 1 y) 2 z) 1 d ≡ y) × (get_or (set (set (set xs 0 x) 1 y) 2 z) 2 d ≡ z)
set_three {A} xs x y z d long =
    let one = length-set xs 0 x in
    let two = length-set (set xs 0 x) 1 y in (
      get_or-set_other (set (set xs 0 x) 1 y) 2 0 z d (λ e. omega arith) ∙ get_or-set_other (set xs 0 x) 1 0 y d (λ e. omega arith) ∙ get_or-set_same xs 0 x d (omega arith),
      get_or-set_other (set (set xs 0 x) 1 y) 2 1 z d (λ e. omega arith) ∙ get_or-set_same (set xs 0 x) 1 y d (omega (arith, one)),
      get_or-set_same (set (set xs 0 x) 1 y) 2 z d (omega (arith, one, two)),
    )

-- what lies behind the first items
pub behind : {A : Type 0} (n : ℕ) (xs ys : List A) → length xs ≡ n → drop n (xs ++ ys) ≡ ys
behind {A} n xs ys long = drop-append-le n xs ys (omega arith) ∙ ap (λ (zs : List A). zs ++ ys) (drop_all n xs (omega arith))

-- three rows, one after another
pub rows_of_three : (count : ℕ) (a b c : List ℕ) → length a ≡ count → length b ≡ count → length c ≡ count
    → (row count 0 (a ++ (b ++ c)) ≡ a) × (row count 1 (a ++ (b ++ c)) ≡ b) × (row count 2 (a ++ (b ++ c)) ≡ c)
rows_of_three count a b c la lb lc =
    let all = a ++ (b ++ c) in
    let zero : 0 * count ≡ 0 = omega arith in
    let one : 1 * count ≡ count = omega arith in
    let two : 2 * count ≡ count + count = omega arith in
    let second : drop count all ≡ b ++ c = behind count a (b ++ c) la in
    let third : drop (count + count) all ≡ c = sym (drop-drop count count all) ∙ ap (drop count) second ∙ behind count b c lb in (
      rw zero (take-append-le count a (b ++ c) (omega arith) ∙ take_all count a (omega arith)),
      rw (one, second) (take-append-le count b c (omega arith) ∙ take_all count b (omega arith)),
      rw (two, third) (take_all count c (omega arith)),
    )

module _ {W V : Type 0} (number : W → ℕ) (state : V → ℕ) (w s : ℕ) (model : Model ℕ) (width count : ℕ) (words : List W) (heads : List V) (lens : List ℕ)
    (a b c : V) (la lb lc : ℕ) (xa xb xc : List ℕ) (ha hb hc : V) (wa wb wc : List W) where
  pub three_lanes : length heads ≡ 3 → length lens ≡ 3 → length xa ≡ count → length xb ≡ count → length xc ≡ count
      → ha ≡ get_or heads 0 ha → hb ≡ get_or heads 1 hb → hc ≡ get_or heads 2 hc → row width 0 words ≡ wa → row width 1 words ≡ wb → row width 2 words ≡ wc
      → DecodesAll w s (items_of model xa) (lane number state ha wa (get_or lens 0 0)) (lane number state a wa la) × (la ≤ get_or lens 0 0)
      → DecodesAll w s (items_of model xb) (lane number state hb wb (get_or lens 1 0)) (lane number state b wb lb) × (lb ≤ get_or lens 1 0)
      → DecodesAll w s (items_of model xc) (lane number state hc wc (get_or lens 2 0)) (lane number state c wc lc) × (lc ≤ get_or lens 2 0)
      → DecodesLanes number state w s model width count words heads lens (set (set (set heads 0 a) 1 b) 2 c) (set (set (set lens 0 la) 1 lb) 2 lc) (xa ++ (xb ++ xc)) 3
  three_lanes nh nl na nb nc ia ib ic ra rb rc da db dc k lt d =
      let rows = rows_of_three count xa xb xc na nb nc in
      let hs = set_three heads a b c d (omega arith) in
      let ls = set_three lens la lb lc 0 (omega arith) in
      elim (cases_lt k 1) [
        | inl first ↦
            let same : k ≡ 0 = omega arith in
            rw (same, rows.0, hs.0, ls.0, sym (get_or_read heads 0 ha (omega arith) ia d), ra) da
        | inr others ↦ elim (cases_lt k 2) [
          | inl second ↦
              let same : k ≡ 1 = omega arith in
              rw (same, rows.1, hs.1, ls.1, sym (get_or_read heads 1 hb (omega arith) ib d), rb) db
          | inr last ↦
              let same : k ≡ 2 = omega arith in
              rw (same, rows.2, hs.2, ls.2, sym (get_or_read heads 2 hc (omega arith) ic d), rc) dc
        ]
      ]
