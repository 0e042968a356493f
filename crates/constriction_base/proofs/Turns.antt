-- Lists that are turned round, and a place in them.
use Rattle.std.proofs.Common.{◌≡◌, ℕ, ◌-◌, List, [], ◌∷◌, ◌++◌, length, take, drop, refl, sym, ◌∙◌, arith, ap, length-drop, subst}
use Rattle.std.specs.List.{AllByRecursion}
use Rattle.std.specs.Prelude.{map, reverse}
use Rattle.std.proofs.Math.Seq.{drop-append_seam, take-append_seam}
use Rattle.std.proofs.lemmas.List.{length-reverse, map-append, reverse-append, reverse-reverse, take-append-drop}

-- a list turned round is what stood from a place on, turned round, and then what stood before it
pub reverse_at : {A : Type 0} (n : ℕ) (xs : List A) → reverse xs ≡ reverse (drop n xs) ++ reverse (take n xs)
reverse_at n xs = ap reverse (sym (take-append-drop n xs)) ∙ reverse-append (take n xs) (drop n xs)

-- so many elements stood from a place on
pub length_behind : {A : Type 0} (n : ℕ) (xs : List A) → length xs - n ≡ length (reverse (drop n xs))
length_behind n xs = omega (arith, length-reverse (drop n xs), length-drop n xs)

-- what stood before a place stands behind it, turned round
pub drop_turned : {A : Type 0} (n : ℕ) (xs ys : List A) → ys ≡ reverse xs → drop (length xs - n) ys ≡ reverse (take n xs)
drop_turned {A} n xs ys e =
    let behind = reverse (drop n xs) in
    let before = reverse (take n xs) in
    ap (λ (zs : List A). drop (length xs - n) zs) (e ∙ reverse_at n xs)
    ∙ (ap (λ (k : ℕ). drop k (behind ++ before)) (length_behind n xs) ∙ drop-append_seam behind before)

-- what stood from a place on stands before it, turned round
pub take_turned : {A : Type 0} (n : ℕ) (xs ys : List A) → ys ≡ reverse xs → reverse (take (length xs - n) ys) ≡ drop n xs
take_turned {A} n xs ys e =
    let behind = reverse (drop n xs) in
    let before = reverse (take n xs) in
    ap (λ (zs : List A). reverse (take (length xs - n) zs)) (e ∙ reverse_at n xs)
    ∙ (ap (λ (k : ℕ). reverse (take k (behind ++ before))) (length_behind n xs)
    ∙ (ap reverse (take-append_seam behind before) ∙ reverse-reverse (drop n xs)))

pub map-reverse : {A B : Type 0} (f : A → B) (xs : List A) → map f (reverse xs) ≡ reverse (map f xs)
map-reverse f [] = refl
map-reverse {A} {B} f (x ∷ xs) =
    ap (λ (ys : List A). map f ys) (reverse-append (x ∷ []) xs) ∙ (map-append f (reverse xs) (x ∷ [])
    ∙ (ap (λ (ys : List B). ys ++ (f x ∷ [])) (map-reverse f xs) ∙ sym (reverse-append (f x ∷ []) (map f xs))))

pub all-append : {A : Type 0} (P : A → Type 0) (xs ys : List A) → AllByRecursion P xs → AllByRecursion P ys → AllByRecursion P (xs ++ ys)
all-append P [] ys h k = k
all-append P (x ∷ xs) ys h k = (h.0, all-append P xs ys h.1 k)

pub all-reverse : {A : Type 0} (P : A → Type 0) (xs : List A) → AllByRecursion P xs → AllByRecursion P (reverse xs)
all-reverse P [] h = tt
all-reverse {A} P (x ∷ xs) h =
    subst (λ (ys : List A). AllByRecursion P ys) (sym (reverse-append (x ∷ []) xs)) (all-append P (reverse xs) (x ∷ []) (all-reverse P xs h.1) (h.0, tt))
