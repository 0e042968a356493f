-- Words that are written onto others and taken off again.
use Rattle.std.proofs.Common.{◌≡◌, ℕ, zero, suc, ◌+◌, ◌-◌, ◌/◌, ◌%◌, ◌<◌, ◌≤◌, List, [], ◌∷◌, ◌++◌, map, drop, length, length-append, Option, None, Some, Result, Ok, Err, refl, sym, ap, ◌∙◌, add-one, arith}
use Rattle.std.specs.Int.Digits.{digits_of}
use Rattle.std.proofs.lemmas.Int.Digits.{digits_of_step, length-digits_of_step}
use Rattle.constriction_base.specs.Backends.{Reads}
use Rattle.constriction_base.specs.Digits.{fixed_digits}
use Rattle.constriction_base.specs.Readings.{ReadsUpTo}

drop_next : {X : Type 0} (i : ℕ) (xs : List X) (w : X) (ys : List X) → w ∷ ys ≡ drop i xs → ys ≡ drop (suc i) xs
drop_next zero [] w ys e = absurd (cc)
drop_next zero (x ∷ xs) w ys e = cc
drop_next (suc i) [] w ys e = absurd (cc)
drop_next (suc i) (x ∷ xs) w ys e = drop_next i xs w ys e

drop_none : {X : Type 0} (i : ℕ) (xs : List X) → [] ≡ drop i xs → [] ≡ drop (suc i) xs
drop_none zero [] e = refl
drop_none zero (x ∷ xs) e = absurd (cc)
drop_none (suc i) [] e = refl
drop_none (suc i) (x ∷ xs) e = drop_none i xs e

-- one more word is taken off
pub read_drop : {X E : Type 0} (r : Result (Option X) E) (x : Option X) → r ≡ Ok x → (i : ℕ) (all old new : List X) → Reads old r new → old ≡ drop i all → new ≡ drop (i + 1) all
read_drop (Ok None) x is i all old new h e = rw add-one (h.1 ∙ drop_none i all (sym h.0 ∙ e))
read_drop (Ok (Some w)) x is i all old new h e = rw add-one (drop_next i all w new (sym h ∙ e))
read_drop (Err no_word) x is i all old new h e = absurd (cc)

pub map-drop : {X Y : Type 0} (f : X → Y) (i : ℕ) (xs : List X) → map f (drop i xs) ≡ drop i (map f xs)
map-drop f zero xs = refl
map-drop f (suc i) [] = refl
map-drop f (suc i) (x ∷ xs) = map-drop f i xs

-- one more word was written
pub drop_written : {X : Type 0} (count left : ℕ) (w : X) (all old new : List X) → 0 < left → left ≤ count → new ≡ w ∷ old → drop (count - left) old ≡ all → drop (count - (left - 1)) new ≡ all
drop_written count left w all old new some within is e =
    let more : count - (left - 1) ≡ suc (count - left) = omega arith in
    rw (more, is) e

-- the digits of a number, as many as it has
pub all_digits : (b count n : ℕ) → 2 ≤ b → length (digits_of b n) ≡ count → fixed_digits b count n ≡ digits_of b n
all_digits b zero zero base is = refl
all_digits b zero (suc n) base is = absurd (omega (arith, is, length-digits_of_step b (suc n) base (omega arith)))
all_digits b (suc count) zero base is = absurd (cc)
all_digits b (suc count) (suc n) base is =
    let less : length (digits_of b (suc n / b)) ≡ count = omega (arith, is, length-digits_of_step b (suc n) base (omega arith)) in
    ap (λ ds. ds ++ (suc n % b ∷ [])) (all_digits b count (suc n / b) base less) ∙ sym (digits_of_step b (suc n) base (omega arith))

pub drop_nothing : {X : Type 0} (count : ℕ) (xs : List X) → drop (count - count) xs ≡ xs
drop_nothing count xs =
    let none : count - count ≡ zero = omega arith in
    rw none refl

-- so many digits are so many
pub fixed-length : (b m n : ℕ) → length (fixed_digits b m n) ≡ m
fixed-length b zero n = refl
fixed-length b (suc m) n = omega (arith, length-append (fixed_digits b m (n / b)) (n % b ∷ []), fixed-length b m (n / b))

-- a read that succeeds, and more after it
pub read_more : {W E B : Type 0} (reads : B → Result (Option W) E → B → Type 0) (answer : Result (Option W) E) (word : Option W) → answer ≡ Ok word
    → (old between new : B) (count : ℕ) → reads old answer between → ReadsUpTo reads count between new → ReadsUpTo reads (suc count) old new
read_more reads (Ok word) _ is old between new count read more = (Ok word, between, read, more)
read_more reads (Err e) word is old between new count read more = absurd (cc)

-- a read that fails is the last
pub read_last : {W E B : Type 0} (reads : B → Result (Option W) E → B → Type 0) (answer : Result (Option W) E) (e : E) → answer ≡ Err e
    → (old new : B) (count : ℕ) → reads old answer new → ReadsUpTo reads (suc count) old new
read_last reads (Ok word) e is old new count read = absurd (cc)
read_last reads (Err e) _ is old new count read = (Err e, new, read, refl)
