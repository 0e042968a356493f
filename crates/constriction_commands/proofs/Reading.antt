-- Reading a line byte by byte gives the numbers of its pieces.
use Rattle.std.proofs.Common.{◌≡◌, ℕ, zero, suc, ◌+◌, ◌*◌, ◌-◌, ◌<◌, ◌≤◌, inl, inr, Bool, true, false, ◌&&◌, cond, leb, Option, None, Some, unwrap_or, option_and_then, List, [], ◌∷◌, ◌++◌, length, get_or, drop, drop-cons, filter, refl, sym, ◌∙◌, ap, append_assoc, append-nil, add-one, arith}
use Rattle.std.proofs.lemmas.List.{drop_all}
use Rattle.std.specs.List.{slice_split, onto_first}
use Rattle.std.specs.Char.{is_ascii_digit}
use Rattle.std.specs.Str.{all_ascii_digits}
use Rattle.std.proofs.lemmas.Bool.{and_cases, and_from, and_left, and_right, and_parts, leb-true, leb-false, le-leb, lt-leb, cases_Bool}
use Rattle.constriction_commands.specs.Lines.{is_blank, has_bytes, value_after, number_spelled, in_front, all_numbers, numbers_of, with_digit, pieces_of}

-- ---- a reader that goes from byte to byte

-- the number of the digits that were read before, in front of the numbers of the rest
abbrev pub behind : Option ℕ → Option (List ℕ) → Option (List ℕ)
behind None rest = rest
behind (Some n) rest = in_front (Some n) rest

-- the numbers that follow the digits of a number, if some were read
abbrev pub read_on : ℕ → Option ℕ → List ℕ → Option (List ℕ)
read_on greatest begun [] = behind begun (Some [])
read_on greatest begun (byte ∷ bytes) =
    cond (is_blank byte) (behind begun (read_on greatest None bytes))
    (option_and_then (λ n. read_on greatest (Some n) bytes) (with_digit greatest (unwrap_or begun 0) byte))

-- ---- digits

-- the number of digits that were read, if there are some
abbrev open_of : List ℕ → Option ℕ
open_of [] = None
open_of (digit ∷ digits) = Some (value_after 0 (digit ∷ digits))

value_after-append : (n : ℕ) (xs ys : List ℕ) → value_after n (xs ++ ys) ≡ value_after (value_after n xs) ys
value_after-append n [] ys = refl
value_after-append n (x ∷ xs) ys = value_after-append (10 * n + (x - 48)) xs ys

-- more digits make no smaller number
value_grows : (n : ℕ) (digits : List ℕ) → n ≤ value_after n digits
value_grows n [] = omega arith
value_grows n (digit ∷ digits) = omega (arith, value_grows (10 * n + (digit - 48)) digits)

all_ascii_digits-append : (xs ys : List ℕ) → all_ascii_digits (xs ++ ys) ≡ (all_ascii_digits xs && all_ascii_digits ys)
all_ascii_digits-append [] ys = refl
all_ascii_digits-append (x ∷ xs) ys = elim (is_ascii_digit x) as (λ b. (b && all_ascii_digits (xs ++ ys)) ≡ ((b && all_ascii_digits xs) && all_ascii_digits ys)) [
  | true ↦ all_ascii_digits-append xs ys
  | false ↦ refl
]

open_of-value : (digits : List ℕ) → unwrap_or (open_of digits) 0 ≡ value_after 0 digits
open_of-value [] = refl
open_of-value (digit ∷ digits) = refl

open_of-push : (digits : List ℕ) (byte : ℕ) → open_of (digits ++ byte ∷ []) ≡ Some (10 * value_after 0 digits + (byte - 48))
open_of-push [] byte = refl
open_of-push (digit ∷ digits) byte = ap Some (value_after-append (10 * 0 + (digit - 48)) digits (byte ∷ []))

-- ---- pieces

-- digits in front of the first piece
abbrev onto : List ℕ → List (List ℕ) → List (List ℕ)
onto digits [] = digits ∷ []
onto digits (piece ∷ pieces) = (digits ++ piece) ∷ pieces

-- the numbers of the pieces that are not empty
abbrev judged : ℕ → List (List ℕ) → Option (List ℕ)
judged greatest pieces = all_numbers greatest (filter has_bytes pieces)

onto-none : (greatest : ℕ) (pieces : List (List ℕ)) → judged greatest (onto [] pieces) ≡ judged greatest pieces
onto-none greatest [] = refl
onto-none greatest (piece ∷ pieces) = refl

onto-onto_first : (digits : List ℕ) (byte : ℕ) (pieces : List (List ℕ)) → onto digits (onto_first byte pieces) ≡ onto (digits ++ byte ∷ []) pieces
onto-onto_first digits byte [] = refl
onto-onto_first digits byte (piece ∷ pieces) = ap (λ (p : List ℕ). p ∷ pieces) (sym (append_assoc digits (byte ∷ []) piece))

judged-cons : (greatest : ℕ) (digits : List ℕ) (byte : ℕ) (rest : List ℕ) (pieces : List (List ℕ)) → judged greatest ((digits ++ byte ∷ rest) ∷ pieces) ≡ in_front (number_spelled greatest (digits ++ byte ∷ rest)) (judged greatest pieces)
judged-cons greatest [] byte rest pieces = refl
judged-cons greatest (digit ∷ digits) byte rest pieces = refl

-- ---- one byte

-- what a digit makes
digit_read : (test : Bool) (v n : ℕ) → cond test (Some v) None ≡ Some n → (test ≡ true) × (v ≡ n)
digit_read true v n e = (refl, cc)
digit_read false v n e = cc

digit_refused : (test : Bool) (v : ℕ) → cond test (Some v) None ≡ None → test ≡ false
digit_refused true v e = cc
digit_refused false v e = refl

number_spelled-none : (greatest : ℕ) (piece : List ℕ) → (all_ascii_digits piece && leb (value_after 0 piece) greatest) ≡ false → number_spelled greatest piece ≡ None
number_spelled-none greatest piece e = rw e refl

number_spelled-some : (greatest : ℕ) (piece : List ℕ) → all_ascii_digits piece ≡ true → value_after 0 piece ≤ greatest → number_spelled greatest piece ≡ Some (value_after 0 piece)
number_spelled-some greatest piece digits small = rw (and_from _ _ digits (le-leb _ _ small)) refl

-- a byte that can't go on a number spoils the piece that it stands in
number_spelled-spoilt : (greatest : ℕ) (digits : List ℕ) (byte : ℕ) (rest : List ℕ) → with_digit greatest (value_after 0 digits) byte ≡ None → number_spelled greatest (digits ++ byte ∷ rest) ≡ None
number_spelled-spoilt greatest digits byte rest e =
    elim (and_cases _ _ (digit_refused (is_ascii_digit byte && leb (10 * value_after 0 digits + (byte - 48)) greatest) (10 * value_after 0 digits + (byte - 48)) e)) [
      | inl no_digit ↦ number_spelled-none greatest (digits ++ byte ∷ rest) (and_left _ _ (all_ascii_digits-append digits (byte ∷ rest) ∙ and_right _ _ (and_left _ _ no_digit)))
      | inr too_great ↦ number_spelled-none greatest (digits ++ byte ∷ rest) (and_right _ _ (past greatest digits byte rest (leb-false _ _ too_great)))
    ]
  where
    past : (greatest : ℕ) (digits : List ℕ) (byte : ℕ) (rest : List ℕ) → greatest < 10 * value_after 0 digits + (byte - 48) → leb (value_after 0 (digits ++ byte ∷ rest)) greatest ≡ false
    past greatest digits byte rest over =
        let grown = value_grows (10 * value_after 0 digits + (byte - 48)) rest in
        let is = value_after-append 0 digits (byte ∷ rest) in
        lt-leb (value_after 0 (digits ++ byte ∷ rest)) greatest (omega (arith, over, grown, is))

-- ---- the whole line

-- what is to be shown of the bytes that follow
abbrev Reads : ℕ → List ℕ → Type 0
Reads greatest bytes = (digits : List ℕ) → all_ascii_digits digits ≡ true → value_after 0 digits ≤ greatest → read_on greatest (open_of digits) bytes ≡ judged greatest (onto digits (slice_split is_blank bytes))

-- digits end where a piece does
ends : (greatest : ℕ) (digits : List ℕ) (pieces : List (List ℕ)) → all_ascii_digits digits ≡ true → value_after 0 digits ≤ greatest → behind (open_of digits) (judged greatest pieces) ≡ judged greatest ((digits ++ []) ∷ pieces)
ends greatest [] pieces all small = refl
ends greatest (digit ∷ digits) pieces all small =
    sym (
    ap (λ (p : List ℕ). judged greatest (p ∷ pieces)) (append-nil (digit ∷ digits))
    ∙ ap (λ (o : Option ℕ). in_front o (judged greatest pieces)) (number_spelled-some greatest (digit ∷ digits) all small)
    )

-- a blank ends a piece
at_blank : (greatest byte : ℕ) (bytes : List ℕ) → is_blank byte ≡ true → Reads greatest bytes → Reads greatest (byte ∷ bytes)
at_blank greatest byte bytes blank again digits all small =
    rw blank (
    ap (behind (open_of digits)) (again [] refl (omega arith) ∙ onto-none greatest (slice_split is_blank bytes))
    ∙ ends greatest digits (slice_split is_blank bytes) all small
    )

-- another byte goes on a number, or spoils the line
at_byte : (greatest byte : ℕ) (bytes : List ℕ) (digits : List ℕ) (next : Option ℕ) → with_digit greatest (value_after 0 digits) byte ≡ next → Reads greatest bytes → all_ascii_digits digits ≡ true →
    option_and_then (λ n. read_on greatest (Some n) bytes) next ≡ judged greatest (onto digits (onto_first byte (slice_split is_blank bytes)))
at_byte greatest byte bytes digits None e again all = spoilt (slice_split is_blank bytes)
  where
    spoilt : (pieces : List (List ℕ)) → None ≡ judged greatest (onto digits (onto_first byte pieces))
    spoilt [] = sym (judged-cons greatest digits byte [] [] ∙ ap (λ (o : Option ℕ). in_front o (Some [])) (number_spelled-spoilt greatest digits byte [] e))
    spoilt (piece ∷ pieces) = sym (judged-cons greatest digits byte piece pieces ∙ ap (λ (o : Option ℕ). in_front o (judged greatest pieces)) (number_spelled-spoilt greatest digits byte piece e))
at_byte greatest byte bytes digits (Some n) e again all =
    let read = digit_read (is_ascii_digit byte && leb (10 * value_after 0 digits + (byte - 48)) greatest) _ n e in
    let parts = and_parts _ _ read.0 in
    let more : all_ascii_digits (digits ++ byte ∷ []) ≡ true = all_ascii_digits-append digits (byte ∷ []) ∙ and_from _ _ all (and_from _ _ parts.0 refl) in
    let value = value_after-append 0 digits (byte ∷ []) in
    let small : value_after 0 (digits ++ byte ∷ []) ≤ greatest = omega (arith, leb-true _ _ parts.1, value) in
    ap (λ (o : Option ℕ). read_on greatest o bytes) (ap Some (sym read.1) ∙ sym (open_of-push digits byte))
    ∙ again (digits ++ byte ∷ []) more small
    ∙ ap (judged greatest) (sym (onto-onto_first digits byte (slice_split is_blank bytes)))

-- one byte, blank or not
at_any : (greatest byte : ℕ) (bytes : List ℕ) → Reads greatest bytes → Reads greatest (byte ∷ bytes)
at_any greatest byte bytes again =
    elim (cases_Bool (is_blank byte)) [
      | inl blank ↦ at_blank greatest byte bytes blank again
      | inr other ↦ λ digits all small.
          rw other (rw (open_of-value digits) (at_byte greatest byte bytes digits (with_digit greatest (value_after 0 digits) byte) refl again all))
    ]

reads_all : (greatest : ℕ) (bytes : List ℕ) → Reads greatest bytes
reads_all greatest [] = λ digits all small. ends greatest digits [] all small
reads_all greatest (byte ∷ bytes) = at_any greatest byte bytes (reads_all greatest bytes)

-- what is read from a whole line is the numbers that it lists
pub read_on-numbers : (greatest : ℕ) (line : List ℕ) → read_on greatest None line ≡ numbers_of greatest line
read_on-numbers greatest line = reads_all greatest line [] refl (omega arith) ∙ onto-none greatest (slice_split is_blank line)

-- ---- one turn of a reader

-- a blank ends a number
pub step_blank : (greatest : ℕ) (begun : Option ℕ) (line : List ℕ) (i : ℕ) → i < length line → is_blank (get_or line i 0) ≡ true → read_on greatest begun (drop i line) ≡ behind begun (read_on greatest None (drop (i + 1) line))
step_blank greatest begun line i inside blank =
    let cut : drop i line ≡ get_or line i 0 ∷ drop (i + 1) line = rw (add-one, drop-cons line i 0) refl in
    ap (read_on greatest begun) cut ∙ rw blank refl

-- a digit goes on a number
pub step_byte : (greatest : ℕ) (begun : Option ℕ) (line : List ℕ) (i : ℕ) → i < length line → is_blank (get_or line i 0) ≡ false → read_on greatest begun (drop i line) ≡ option_and_then (λ n. read_on greatest (Some n) (drop (i + 1) line)) (with_digit greatest (unwrap_or begun 0) (get_or line i 0))
step_byte greatest begun line i inside other =
    let cut : drop i line ≡ get_or line i 0 ∷ drop (i + 1) line = rw (add-one, drop-cons line i 0) refl in
    ap (read_on greatest begun) cut ∙ rw other refl

-- the line is at its end
pub step_end : (greatest : ℕ) (begun : Option ℕ) (line : List ℕ) (i : ℕ) → length line ≤ i → read_on greatest begun (drop i line) ≡ behind begun (Some [])
step_end greatest begun line i past = ap (read_on greatest begun) (drop_all i line past)

-- ---- numbers that were read before

-- the numbers so far, in front of those of the rest
abbrev pub before : {X : Type 0} → List X → Option (List X) → Option (List X)
before numbers None = None
before numbers (Some rest) = Some (numbers ++ rest)

pub before-none : {X : Type 0} (rest : Option (List X)) → before [] rest ≡ rest
before-none None = refl
before-none (Some rest) = refl

-- one more number so far is one less in front of the rest
pub before-push : {X : Type 0} (numbers : List X) (n : X) (rest : Option (List X)) → before (numbers ++ n ∷ []) rest ≡ before numbers (in_front (Some n) rest)
before-push numbers n None = refl
before-push numbers n (Some rest) = ap Some (append_assoc numbers (n ∷ []) rest)

-- ---- what a turn keeps

-- a digit makes no number past the greatest
pub with_digit-small : (greatest so_far byte n : ℕ) → with_digit greatest so_far byte ≡ Some n → n ≤ greatest
with_digit-small greatest so_far byte n e =
    let read = digit_read (is_ascii_digit byte && leb (10 * so_far + (byte - 48)) greatest) (10 * so_far + (byte - 48)) n e in
    let within : leb (10 * so_far + (byte - 48)) greatest ≡ true = (and_parts (is_ascii_digit byte) _ read.0).1 in
    omega (arith, leb-true (10 * so_far + (byte - 48)) greatest within, read.1)

-- a blank behind a number
pub after_number : (greatest n : ℕ) (line ns ms : List ℕ) (all : Option (List ℕ)) (i : ℕ) (old new : Option ℕ) → i < length line → is_blank (get_or line i 0) ≡ true → old ≡ Some n → new ≡ None → ms ≡ ns ++ n ∷ [] → before ns (read_on greatest old (drop i line)) ≡ all → before ms (read_on greatest new (drop (i + 1) line)) ≡ all
after_number greatest n line ns ms all i old new inside blank old_is new_is more kept =
    ap (λ (xs : List ℕ). before xs (read_on greatest new (drop (i + 1) line))) more
    ∙ ap (λ (o : Option ℕ). before (ns ++ n ∷ []) (read_on greatest o (drop (i + 1) line))) new_is
    ∙ before-push ns n (read_on greatest None (drop (i + 1) line))
    ∙ ap (before ns) (sym (step_blank greatest (Some n) line i inside blank))
    ∙ ap (λ (o : Option ℕ). before ns (read_on greatest o (drop i line))) (sym old_is)
    ∙ kept

-- a blank behind a blank
pub after_blank : (greatest : ℕ) (line ns ms : List ℕ) (all : Option (List ℕ)) (i : ℕ) (old new : Option ℕ) → i < length line → is_blank (get_or line i 0) ≡ true → old ≡ None → new ≡ None → ms ≡ ns → before ns (read_on greatest old (drop i line)) ≡ all → before ms (read_on greatest new (drop (i + 1) line)) ≡ all
after_blank greatest line ns ms all i old new inside blank old_is new_is same kept =
    ap (λ (xs : List ℕ). before xs (read_on greatest new (drop (i + 1) line))) same
    ∙ ap (λ (o : Option ℕ). before ns (read_on greatest o (drop (i + 1) line))) new_is
    ∙ ap (before ns) (sym (step_blank greatest None line i inside blank))
    ∙ ap (λ (o : Option ℕ). before ns (read_on greatest o (drop i line))) (sym old_is)
    ∙ kept

-- a digit
pub after_digit : (greatest n : ℕ) (line ns ms : List ℕ) (all : Option (List ℕ)) (i : ℕ) (old new : Option ℕ) → i < length line → is_blank (get_or line i 0) ≡ false → with_digit greatest (unwrap_or old 0) (get_or line i 0) ≡ Some n → new ≡ Some n → ms ≡ ns → before ns (read_on greatest old (drop i line)) ≡ all → before ms (read_on greatest new (drop (i + 1) line)) ≡ all
after_digit greatest n line ns ms all i old new inside other digit new_is same kept =
    ap (λ (xs : List ℕ). before xs (read_on greatest new (drop (i + 1) line))) same
    ∙ ap (λ (o : Option ℕ). before ns (read_on greatest o (drop (i + 1) line))) new_is
    ∙ ap (λ (o : Option ℕ). before ns (option_and_then (λ m. read_on greatest (Some m) (drop (i + 1) line)) o)) (sym digit)
    ∙ ap (before ns) (sym (step_byte greatest old line i inside other))
    ∙ kept

-- the end of a line behind a number
pub at_number : (greatest n : ℕ) (line ns ms : List ℕ) (all : Option (List ℕ)) (i : ℕ) (old : Option ℕ) → length line ≤ i → old ≡ Some n → ms ≡ ns ++ n ∷ [] → before ns (read_on greatest old (drop i line)) ≡ all → all ≡ Some ms
at_number greatest n line ns ms all i old past old_is more kept =
    sym kept
    ∙ ap (λ (o : Option ℕ). before ns (read_on greatest o (drop i line))) old_is
    ∙ ap (before ns) (step_end greatest (Some n) line i past)
    ∙ ap Some (sym more)

-- the end of a line behind a blank
pub at_none : (greatest : ℕ) (line ns ms : List ℕ) (all : Option (List ℕ)) (i : ℕ) (old : Option ℕ) → length line ≤ i → old ≡ None → ms ≡ ns → before ns (read_on greatest old (drop i line)) ≡ all → all ≡ Some ms
at_none greatest line ns ms all i old past old_is same kept =
    sym kept
    ∙ ap (λ (o : Option ℕ). before ns (read_on greatest o (drop i line))) old_is
    ∙ ap (before ns) (step_end greatest None line i past)
    ∙ ap Some (append-nil ns ∙ sym same)

-- ---- how great numbers are

-- a number of a piece is not past the greatest
number_spelled-small : (greatest : ℕ) (piece : List ℕ) (n : ℕ) → number_spelled greatest piece ≡ Some n → n ≤ greatest
number_spelled-small greatest piece n e =
    let read = digit_read (all_ascii_digits piece && leb (value_after 0 piece) greatest) (value_after 0 piece) n e in
    let within : leb (value_after 0 piece) greatest ≡ true = (and_parts (all_ascii_digits piece) _ read.0).1 in
    omega (arith, leb-true (value_after 0 piece) greatest within, read.1)

-- a list with a number in front
in_front-some : (first : Option ℕ) (rest : Option (List ℕ)) (ns : List ℕ) → in_front first rest ≡ Some ns → (n : ℕ) × (ms : List ℕ) × (first ≡ Some n) × (rest ≡ Some ms) × (ns ≡ n ∷ ms)
in_front-some None rest ns e = cc
in_front-some (Some n) None ns e = cc
in_front-some (Some n) (Some ms) ns e = (n, ms, refl, refl, cc)

all_numbers-small : (greatest : ℕ) (pieces : List (List ℕ)) (ns : List ℕ) → all_numbers greatest pieces ≡ Some ns → (i : ℕ) → get_or ns i 0 ≤ greatest
all_numbers-small greatest [] ns e = λ i.
    let none : ns ≡ [] = cc in
    rw none (omega arith)
all_numbers-small greatest (piece ∷ pieces) ns e =
    let parts = in_front-some (number_spelled greatest piece) (all_numbers greatest pieces) ns e in
    small parts.0 parts.1 parts.4 (number_spelled-small greatest piece parts.0 parts.2) (all_numbers-small greatest pieces parts.1 parts.3)
  where
    small : (n : ℕ) (ms : List ℕ) → ns ≡ n ∷ ms → n ≤ greatest → ((i : ℕ) → get_or ms i 0 ≤ greatest) → (i : ℕ) → get_or ns i 0 ≤ greatest
    small n ms is first rest zero = rw is first
    small n ms is first rest (suc i) = rw is (rest i)

-- no number that a line lists is past the greatest
pub numbers_of-small : (greatest : ℕ) (line ns : List ℕ) → numbers_of greatest line ≡ Some ns → (i : ℕ) → get_or ns i 0 ≤ greatest
numbers_of-small greatest line ns e = all_numbers-small greatest (pieces_of line) ns e
