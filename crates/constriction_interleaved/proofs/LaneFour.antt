-- Four coders side by side, as the first rows of matrices.
use Rattle.std.proofs.Common.{◌≡◌, ◌∙◌, ℕ, ◌+◌, ◌-◌, ◌*◌, ◌<◌, ◌≤◌, List, ◌++◌, length, drop, take, set, get_or, sym, ap, refl, inl, inr, arith, add-mul}
use Rattle.std.proofs.lemmas.Bool.{cases_lt}
use Rattle.std.proofs.lemmas.List.{drop-append-le, drop-drop, drop_all, get_or-set_other, get_or-set_same, get_or_read, length-set, take-append-le, take_all}
use Rattle.constriction_base.specs.Models.{Model, items_of}
use Rattle.constriction_stack.specs.Symbols.{DecodesAll}
use Rattle.constriction_interleaved.specs.Rows.{DecodesLanes, row}
use Rattle.constriction_stack.specs.Lanes.{lane}
use Rattle.constriction_interleaved.proofs.LaneThree.{set_three}

-- the items of a list in which the first four were set
pub set_four : {A : Type 0} (xs : List A) (x y z u d : A) → 3 < length xs
    → (get_or (set (set (set (set xs 0 x) 1 y) 2 z) 3 u) 0 d ≡ x) × (get_or (set (set (set (set xs 0 x) 1 y) 2 z) 3 u) 1 d ≡ y)
    × (get_or (set (set (set (set xs 0 x) 1 y) 2 z) 3 u) 2 d ≡ z) × (get_or (set (set (set (set xs 0 x) 1 y) 2 z) 3 u) 3 d ≡ u)
set_four {A} xs x y z u d long =
    let three = set (set (set xs 0 x) 1 y) 2 z in
    let len : length three ≡ length xs = length-set (set (set xs 0 x) 1 y) 2 z ∙ length-set (set xs 0 x) 1 y ∙ length-set xs 0 x in
    let first = set_three xs x y z d (omega arith) in (
      get_or-set_other three 3 0 u d (λ e. omega arith) ∙ first.0,
      get_or-set_other three 3 1 u d (λ e. omega arith) ∙ first.1,
      get_or-set_other three 3 2 u d (λ e. omega arith) ∙ first.2,
      get_or-set_same three 3 u d (omega (arith, len)),
    )

-- the row at which a matrix begins, and the rows behind it
row_first : {A : Type 0} (count : ℕ) (a rest : List A) → length a ≡ count → row count 0 (a ++ rest) ≡ a
row_first count a rest long =
    let zero : 0 * count ≡ 0 = omega arith in
    rw zero (take-append-le count a rest (omega arith) ∙ take_all count a (omega arith))

row_next : {A : Type 0} (count k j : ℕ) (a rest : List A) → j ≡ 1 + k → length a ≡ count → row count j (a ++ rest) ≡ row count k rest
row_next {A} count k j a rest next long =
    let one : 1 * count ≡ count = omega arith in
    let place : j * count ≡ count + k * count = ap (λ n. n * count) next ∙ add-mul 1 k count ∙ ap (λ n. n + k * count) one in
    let behind : drop count (a ++ rest) ≡ rest = drop-append-le count a rest (omega arith) ∙ ap (λ (zs : List A). zs ++ rest) (drop_all count a (omega arith)) in
    ap (λ (zs : List A). take count zs) (ap (λ n. drop n (a ++ rest)) place ∙ sym (drop-drop (k * count) count (a ++ rest)) ∙ ap (drop (k * count)) behind)

-- the last rows
row_last : {A : Type 0} (count : ℕ) (a : List A) → length a ≡ count → row count 0 a ≡ a
row_last count a long = let zero : 0 * count ≡ 0 = omega arith in rw zero (take_all count a (omega arith))

-- the first row
pub row_zero : {A : Type 0} (width : ℕ) (xs : List A) → row width 0 xs ≡ take width xs
row_zero width xs = let zero : 0 * width ≡ 0 = omega arith in rw zero refl

-- a row between two places
pub row_from : {A : Type 0} (width k from to : ℕ) (xs : List A) → from ≡ k * width → to - from ≡ width → row width k xs ≡ take (to - from) (drop from xs)
row_from width k from to xs at long = rw (long, at) refl

-- the fourth row, with which the matrix ends
pub row_behind : {A : Type 0} (width : ℕ) (xs : List A) → length xs ≡ 4 * width → row width 3 xs ≡ take (length xs - 3 * width) (drop (3 * width) xs)
row_behind width xs long = let rest : length xs - 3 * width ≡ width = omega (arith, long) in rw rest refl

module _ {W V : Type 0} (number : W → ℕ) (state : V → ℕ) (w s : ℕ) (model : Model ℕ) (width count : ℕ) (words : List W) (heads : List V) (lens : List ℕ)
    (a b c e : V) (la lb lc le : ℕ) (xa xb xc xe : List ℕ) (ha hb hc he : V) (wa wb wc we : List W) where
  pub four_lanes : 3 < length heads → 3 < length lens → length xa ≡ count → length xb ≡ count → length xc ≡ count → length xe ≡ count
      → ha ≡ get_or heads 0 ha → hb ≡ get_or heads 1 hb → hc ≡ get_or heads 2 hc → he ≡ get_or heads 3 he
      → row width 0 words ≡ wa → row width 1 words ≡ wb → row width 2 words ≡ wc → row width 3 words ≡ we
      → DecodesAll w s (items_of model xa) (lane number state ha wa (get_or lens 0 0)) (lane number state a wa la) × (la ≤ get_or lens 0 0)
      → DecodesAll w s (items_of model xb) (lane number state hb wb (get_or lens 1 0)) (lane number state b wb lb) × (lb ≤ get_or lens 1 0)
      → DecodesAll w s (items_of model xc) (lane number state hc wc (get_or lens 2 0)) (lane number state c wc lc) × (lc ≤ get_or lens 2 0)
      → DecodesAll w s (items_of model xe) (lane number state he we (get_or lens 3 0)) (lane number state e we le) × (le ≤ get_or lens 3 0)
      → DecodesLanes number state w s model width count words heads lens (set (set (set (set heads 0 a) 1 b) 2 c) 3 e) (set (set (set (set lens 0 la) 1 lb) 2 lc) 3 le)
      (xa ++ (xb ++ (xc ++ xe))) 4
  four_lanes nh nl na nb nc ne ia ib ic ie ra rb rc re da db dc de k lt d =
      let hs = set_four heads a b c e d nh in
      let ls = set_four lens la lb lc le 0 nl in
      let third = row_next count 0 1 xc xe (omega arith) nc ∙ row_last count xe ne in
      let second = row_next count 0 1 xb (xc ++ xe) (omega arith) nb ∙ row_first count xc xe nc in
      let last = row_next count 1 2 xb (xc ++ xe) (omega arith) nb ∙ third in
      elim (cases_lt k 1) [
        | inl first ↦
            let same : k ≡ 0 = omega arith in
            rw (same, row_first count xa (xb ++ (xc ++ xe)) na, hs.0, ls.0, sym (get_or_read heads 0 ha (omega arith) ia d), ra) da
        | inr others ↦ elim (cases_lt k 2) [
          | inl one ↦
              let same : k ≡ 1 = omega arith in
              rw (same, row_next count 0 1 xa (xb ++ (xc ++ xe)) (omega arith) na ∙ row_first count xb (xc ++ xe) nb, hs.1, ls.1, sym (get_or_read heads 1 hb (omega arith) ib d), rb) db
          | inr more ↦ elim (cases_lt k 3) [
            | inl two ↦
                let same : k ≡ 2 = omega arith in
                rw (same, row_next count 1 2 xa (xb ++ (xc ++ xe)) (omega arith) na ∙ second, hs.2, ls.2, sym (get_or_read heads 2 hc (omega arith) ic d), rc) dc
            | inr three ↦
                let same : k ≡ 3 = omega arith in
                rw (same, row_next count 2 3 xa (xb ++ (xc ++ xe)) (omega arith) na ∙ last, hs.3, ls.3, sym (get_or_read heads 3 he (omega arith) ie d), re) de
          ]
        ]
      ]
