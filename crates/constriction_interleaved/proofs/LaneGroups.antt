-- More coders of many, as a group of them has decoded.
use Rattle.std.proofs.Common.{◌≡◌, ◌∙◌, ℕ, suc, ◌+◌, ◌-◌, ◌*◌, ◌<◌, ◌≤◌, List, ◌++◌, length, drop, take, get_or, sym, ap, inl, inr, arith, mul-le-mul_right}
use Rattle.std.proofs.lemmas.Bool.{cases_lt}
use Rattle.std.proofs.lemmas.List.{drop-append-le, drop-drop, drop-take, drop_all, get_or-append_right, get_or-drop, get_or-take, get_or_append_left, length-take-le, take-append-le, take-take}
use Rattle.std.proofs.Common.{add-mul}
use Rattle.constriction_base.specs.Models.{Model}
use Rattle.constriction_interleaved.specs.Rows.{DecodesLanes, row}
use Rattle.constriction_interleaved.proofs.LaneRows.{row_before}

-- a row of the first rows
pub row_taken : {A : Type 0} (width i n : ℕ) (xs : List A) → i < n → row width i (take (n * width) xs) ≡ row width i xs
row_taken {A} width i n xs lt =
    let next : suc i * width ≤ n * width = mul-le-mul_right width lt in
    let first : take (i * width + width) (take (n * width) xs) ≡ take (i * width + width) xs = take-take (i * width + width) (n * width) xs (omega (arith, next)) in
    sym (drop-take (i * width) width (take (n * width) xs)) ∙ ap (λ (zs : List A). drop (i * width) zs) first ∙ drop-take (i * width) width xs

-- a row of a part that begins with a row
pub row_inside : {A : Type 0} (width j i n : ℕ) (xs : List A) → i < n → row width i (take (n * width) (drop (j * width) xs)) ≡ row width (j + i) xs
row_inside {A} width j i n xs lt =
    let sum : (j + i) * width ≡ j * width + i * width = add-mul j i width in
    row_taken width i n (drop (j * width) xs) lt ∙ ap (λ (zs : List A). take width zs) (drop-drop (i * width) (j * width) xs ∙ ap (λ (k : ℕ). drop k xs) (sym sum))

-- a row of rows that others follow
pub row_front : {A : Type 0} (width i n : ℕ) (new rest : List A) → i < n → length new ≡ n * width → row width i (new ++ rest) ≡ row width i new
row_front {A} width i n new rest lt long =
    let next : suc i * width ≤ n * width = mul-le-mul_right width lt in
    sym (drop-take (i * width) width (new ++ rest)) ∙ ap (drop (i * width)) (take-append-le (i * width + width) new rest (omega (arith, next))) ∙ drop-take (i * width) width new

-- the rows that are put into a matrix
pub row_put : {A : Type 0} (width j i n : ℕ) (xs new rest : List A) → i < n → length new ≡ n * width → j * width ≤ length xs
    → row width (j + i) (take (j * width) xs ++ (new ++ rest)) ≡ row width i new
row_put {A} width j i n xs new rest lt long within =
    let sum : (j + i) * width ≡ j * width + i * width = add-mul j i width in
    let all = take (j * width) xs ++ (new ++ rest) in
    let first : length (take (j * width) xs) ≡ j * width = length-take-le (j * width) xs within in
    let left : drop (j * width) all ≡ new ++ rest =
    drop-append-le (j * width) (take (j * width) xs) (new ++ rest) (omega arith) ∙ ap (λ (zs : List A). zs ++ (new ++ rest)) (drop_all (j * width) (take (j * width) xs) (omega arith)) in
    let at : drop ((j + i) * width) all ≡ drop (i * width) (new ++ rest) =
    ap (λ (k : ℕ). drop k all) sum ∙ sym (drop-drop (i * width) (j * width) all) ∙ ap (drop (i * width)) left in
    ap (λ (zs : List A). take width zs) at ∙ row_front width i n new rest lt long

-- an item that is put, and one before those that are put
pub put_at : {A : Type 0} (j i n : ℕ) (xs new rest : List A) (d : A) → i < n → length new ≡ n → j ≤ length xs → get_or (take j xs ++ (new ++ rest)) (j + i) d ≡ get_or new i d
put_at j i n xs new rest d lt long within =
    let first : length (take j xs) ≡ j = length-take-le j xs within in
    let place : j + i - j ≡ i = omega arith in
    get_or-append_right (take j xs) (new ++ rest) j (j + i) d first (omega arith) ∙ ap (λ k. get_or (new ++ rest) k d) place ∙ get_or_append_left new rest d i (omega arith)

pub put_before : {A : Type 0} (j k : ℕ) (xs ys : List A) (d : A) → k < j → j ≤ length xs → get_or (take j xs ++ ys) k d ≡ get_or xs k d
put_before j k xs ys d lt within =
    let first : length (take j xs) ≡ j = length-take-le j xs within in
    get_or_append_left (take j xs) ys d k (omega arith) ∙ get_or-take j xs k d lt

-- an item of a part
pub part_at : {A : Type 0} (j i n : ℕ) (xs : List A) (d : A) → i < n → get_or (take n (drop j xs)) i d ≡ get_or xs (j + i) d
part_at j i n xs d lt = get_or-take n (drop j xs) i d lt ∙ get_or-drop j xs i d

-- lists that agree from a place on agree behind it
pub same_behind : {A : Type 0} (j i : ℕ) (xs ys : List A) (d : A) → drop j xs ≡ drop j ys → get_or xs (j + i) d ≡ get_or ys (j + i) d
same_behind {A} j i xs ys d e = sym (get_or-drop j xs i d) ∙ ap (λ (zs : List A). get_or zs i d) e ∙ get_or-drop j ys i d

module _ {W V : Type 0} (number : W → ℕ) (state : V → ℕ) (w s : ℕ) (model : Model ℕ) (width count : ℕ) (words : List W) (heads : List V) (lens : List ℕ)
    (now_heads : List V) (now_lens symbols : List ℕ) (j n : ℕ) (new_heads rest_heads : List V) (new_lens rest_lens decoded rest : List ℕ) where
  pub lanes_more : drop j now_heads ≡ drop j heads → drop j now_lens ≡ drop j lens → j ≤ length now_heads → j ≤ length now_lens → j * count ≤ length symbols
      → length new_heads ≡ n → length new_lens ≡ n → length decoded ≡ n * count
      → DecodesLanes number state w s model width count (take (n * width) (drop (j * width) words)) (take n (drop j now_heads)) (take n (drop j now_lens)) new_heads new_lens decoded n
      → DecodesLanes number state w s model width count words heads lens now_heads now_lens symbols j
      → DecodesLanes number state w s model width count words heads lens (take j now_heads ++ (new_heads ++ rest_heads)) (take j now_lens ++ (new_lens ++ rest_lens)) (take (j * count) symbols ++ (decoded ++ rest)) (j + n)
  lanes_more heads_left lens_left here within room long_heads long_lens long group done k lt d = elim (cases_lt k j) [
    | inl below ↦
        rw (row_before count j k symbols (decoded ++ rest) below room, put_before j k now_heads (new_heads ++ rest_heads) d below here, put_before j k now_lens (new_lens ++ rest_lens) 0 below within) (done k below d)
    | inr above ↦
        let i = k - j in
        let less : i < n = omega arith in
        let same : k ≡ j + i = omega arith in
        let one = group i less d in
        let old : get_or (take n (drop j now_heads)) i d ≡ get_or heads (j + i) d = part_at j i n now_heads d less ∙ same_behind j i now_heads heads d heads_left in
        let left : get_or (take n (drop j now_lens)) i 0 ≡ get_or lens (j + i) 0 = part_at j i n now_lens 0 less ∙ same_behind j i now_lens lens 0 lens_left in
        let moved = rw (old, left, row_inside width j i n words less) at one in
        rw (same, row_put count j i n symbols decoded rest less long room, put_at j i n now_heads new_heads rest_heads d less long_heads here, put_at j i n now_lens new_lens rest_lens 0 less long_lens within) moved
  ]

-- The first coders of many, as a group of them has decoded.
module _ {W V : Type 0} (number : W → ℕ) (state : V → ℕ) (w s : ℕ) (model : Model ℕ) (width count : ℕ) (words : List W) (heads : List V) (lens : List ℕ)
    (n : ℕ) (new_heads rest_heads : List V) (new_lens rest_lens decoded rest : List ℕ) where
  pub first_lanes : length new_heads ≡ n → length new_lens ≡ n → length decoded ≡ n * count
      → DecodesLanes number state w s model width count (take (n * width) words) (take n heads) (take n lens) new_heads new_lens decoded n
      → DecodesLanes number state w s model width count words heads lens (new_heads ++ rest_heads) (new_lens ++ rest_lens) (decoded ++ rest) n
  first_lanes long_heads long_lens long group k lt d =
      let one = group k lt d in
      let moved = rw (get_or-take n heads k d lt, get_or-take n lens k 0 lt, row_taken width k n words lt) at one in
      rw (row_front count k n decoded rest lt long, get_or_append_left new_heads rest_heads d k (omega arith), get_or_append_left new_lens rest_lens 0 k (omega arith)) moved
