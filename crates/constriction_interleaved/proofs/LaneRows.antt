-- Rows of a matrix, one of which is written.
use Rattle.std.proofs.Common.{◌≡◌, ◌∙◌, ℕ, suc, ◌+◌, ◌*◌, ◌<◌, ◌≤◌, List, [], ◌++◌, length, drop, take, sym, ap, arith, mul-le-mul_right}
use Rattle.std.proofs.lemmas.List.{drop-append-le, drop-take, drop_all, length-drop, length-take-le, take-append-le, take-take, take_all}
use Rattle.constriction_interleaved.specs.Rows.{row}

-- the rows below one stay as they were
pub row_before : {A : Type 0} (width j k : ℕ) (xs ys : List A) → k < j → j * width ≤ length xs → row width k (take (j * width) xs ++ ys) ≡ row width k xs
row_before {A} width j k xs ys below within =
    let n = j * width in
    let a = k * width in
    let next : suc k * width ≤ j * width = mul-le-mul_right width below in
    let room : a + width ≤ n = omega (arith, next) in
    let long : length (take n xs) ≡ n = length-take-le n xs within in
    let same : take (a + width) (take n xs ++ ys) ≡ take (a + width) xs = take-append-le (a + width) (take n xs) ys (omega arith) ∙ take-take (a + width) n xs room in
    sym (drop-take a width (take n xs ++ ys)) ∙ ap (λ (zs : List A). drop a zs) same ∙ drop-take a width xs

-- the row that is written
pub row_at : {A : Type 0} (width j : ℕ) (xs new rest : List A) → j * width ≤ length xs → length new ≡ width → row width j (take (j * width) xs ++ (new ++ rest)) ≡ new
row_at {A} width j xs new rest within long =
    let n = j * width in
    let first : length (take n xs) ≡ n = length-take-le n xs within in
    let gone : drop n (take n xs) ≡ [] = drop_all n (take n xs) (omega arith) in
    let left : drop n (take n xs ++ (new ++ rest)) ≡ new ++ rest = drop-append-le n (take n xs) (new ++ rest) (omega arith) ∙ ap (λ (zs : List A). zs ++ (new ++ rest)) gone in
    ap (λ (zs : List A). take width zs) left ∙ take-append-le width new rest (omega arith) ∙ take_all width new (omega arith)

-- a row is as long as the others
pub row_long : {A : Type 0} (width j n : ℕ) (xs : List A) → j < n → length xs ≡ n * width → length (row width j xs) ≡ width
row_long width j n xs lt long =
    let next : suc j * width ≤ n * width = mul-le-mul_right width lt in
    length-take-le width (drop (j * width) xs) (omega (arith, next, length-drop (j * width) xs))
