-- One coder more of many, where the call is done with the coders before it.
use Rattle.std.proofs.Common.{◌≡◌, ◌∙◌, ℕ, suc, ◌+◌, ◌-◌, ◌*◌, ◌<◌, ◌≤◌, List, ◌++◌, length, drop, take, set, get_or, sym, ap, inl, inr, arith, mul-le-mul_right}
use Rattle.std.proofs.lemmas.Bool.{cases_lt}
use Rattle.std.proofs.lemmas.List.{drop-drop, drop-set-lt, get_or-drop, get_or-set_other, get_or-set_same, length-drop, length-take-le}
use Rattle.std.proofs.lemmas.Slice.{drop-put_mid}
use borrow.Rule.Slice.PartMut.{put_mid}
use Rattle.constriction_interleaved.specs.Rows.{row}
use Rattle.constriction_interleaved.proofs.LaneRows.{row_at, row_before}

-- lists that agree from a place on have the same item there
pub same_here : {A : Type 0} (j : ℕ) (xs ys : List A) (d : A) → drop j xs ≡ drop j ys → get_or xs j d ≡ get_or ys j d
same_here {A} j xs ys d e =
    let zero : j + 0 ≡ j = omega arith in
    let first : get_or (drop j xs) 0 d ≡ get_or xs j d = get_or-drop j xs 0 d ∙ ap (λ n. get_or xs n d) zero in
    let second : get_or (drop j ys) 0 d ≡ get_or ys j d = get_or-drop j ys 0 d ∙ ap (λ n. get_or ys n d) zero in
    sym first ∙ ap (λ (zs : List A). get_or zs 0 d) e ∙ second

-- they agree behind it, whatever is set there
pub left_more : {A : Type 0} (j : ℕ) (xs ys : List A) (x : A) → drop j xs ≡ drop j ys → drop (j + 1) (set xs j x) ≡ drop (j + 1) ys
left_more {A} j xs ys x e = drop-set-lt (j + 1) xs j x (omega arith) ∙ sym (drop-drop 1 j xs) ∙ ap (drop 1) e ∙ drop-drop 1 j ys

-- a row lies within the matrix
pub row_within : (j n width all : ℕ) → j < n → all ≡ n * width → j * width + width ≤ all
row_within j n width all lt is =
    let next : suc j * width ≤ n * width = mul-le-mul_right width lt in
    omega (arith, next)

-- as many items as a part has
pub part_long : {A : Type 0} (xs : List A) (a k : ℕ) → a + k ≤ length xs → length (take (a + k - a) (drop a xs)) ≡ k
part_long xs a k within =
    let e : a + k - a ≡ k = omega arith in
    rw e (length-take-le k (drop a xs) (omega (arith, length-drop a xs)))

-- lists that agree from a place on agree behind a part that is put there
pub left_behind : {A : Type 0} (a k : ℕ) (xs ys new : List A) → a + k ≤ length xs → length new ≡ k → drop a xs ≡ drop a ys → drop (a + k) (put_mid a (a + k - a) xs new) ≡ drop (a + k) ys
left_behind {A} a k xs ys new within long e =
    drop-put_mid a (a + k - a) xs new (a + k) (omega arith) (omega arith) (omega arith)
    ∙ (sym (drop-drop k a xs) ∙ (ap (λ (zs : List A). drop k zs) e ∙ drop-drop k a ys))

-- What holds of each of the first `n` coders: of its head, its number of words and its row. `d` stands for a head that
-- isn't there.
abbrev pub EachRow : {V A : Type 0} → (ℕ → V → V → ℕ → List A → Type 0) → ℕ → List V → List ℕ → List A → ℕ → Type 0
EachRow {V} holds count heads lens matrix n = (j : ℕ) → j < n → (d : V) → holds j d (get_or heads j d) (get_or lens j 0) (row count j matrix)

pub each_more : {V A : Type 0} (count : ℕ) (heads : List V) (lens : List ℕ) (matrix : List A) (j : ℕ) (head : V) (len : ℕ) (new rest : List A) (holds : ℕ → V → V → ℕ → List A → Type 0)
    → j < length heads → j < length lens → j * count ≤ length matrix → length new ≡ count → ((d : V) → holds j d head len new)
    → EachRow holds count heads lens matrix j → EachRow holds count (set heads j head) (set lens j len) (take (j * count) matrix ++ (new ++ rest)) (j + 1)
each_more count heads lens matrix j head len new rest holds here within room long one done k lt d = elim (cases_lt k j) [
  | inl below ↦
      let other : k ≡ j → ⊥ = λ e. omega arith in
      rw (row_before count j k matrix (new ++ rest) below room, get_or-set_other heads j k head d other, get_or-set_other lens j k len 0 other) (done k below d)
  | inr above ↦
      let same : k ≡ j = omega arith in
      rw (same, row_at count j matrix new rest room long, get_or-set_same heads j head d here, get_or-set_same lens j len 0 within) (one d)
]
