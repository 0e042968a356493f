-- Reading a text line by line gives the lists of its lines.
use Rattle.std.proofs.Common.{◌≡◌, ℕ, zero, suc, ◌+◌, ◌<◌, inl, inr, true, false, Option, None, Some, List, [], ◌∷◌, ◌++◌, length, take, drop, refl, sym, ◌∙◌, ap, arith}
use Rattle.std.proofs.lemmas.Bool.{cases_Bool}
use Rattle.std.specs.Prelude.{◌==◌}
use Rattle.std.specs.List.{onto_first, position_or_len}
use Rattle.constriction_commands.specs.Lines.{is_line_feed, first_line, after_line, lines_of, numbers_of, in_front, all_number_lists, number_lists_of}
use Rattle.constriction_commands.proofs.Reading.{before, before-push}

-- the first places of a list that has one more element in front
take-behind : (byte : ℕ) (bytes : List ℕ) (n : ℕ) → take (1 + n) (byte ∷ bytes) ≡ byte ∷ take n bytes
take-behind byte bytes n = let next : 1 + n ≡ suc n = omega arith in ap (λ (m : ℕ). take m (byte ∷ bytes)) next

drop-behind : (byte : ℕ) (bytes : List ℕ) (n : ℕ) → drop (1 + n + 1) (byte ∷ bytes) ≡ drop (n + 1) bytes
drop-behind byte bytes n = let next : 1 + n + 1 ≡ suc (n + 1) = omega arith in ap (λ (m : ℕ). drop m (byte ∷ bytes)) next

-- a number that is not equal to none is some
pub some_left : (n : ℕ) → false ≡ (n == 0) → 0 < n
some_left zero is = absurd (let never : false ≡ true = is in cc)
some_left (suc n) is = omega arith

-- a text that is not empty begins with its first line
lines-first : (text : List ℕ) → 0 < length text → lines_of text ≡ first_line text ∷ lines_of (after_line text)
lines-first [] some = absurd (omega arith)
lines-first (byte ∷ []) some = elim (cases_Bool (is_line_feed byte)) [
  | inl feed ↦ rw feed refl
  | inr other ↦ rw other refl
]
lines-first (byte ∷ next ∷ bytes) some = elim (cases_Bool (is_line_feed byte)) [
  | inl feed ↦ rw feed refl
  | inr other ↦
      let place : ℕ = position_or_len is_line_feed (next ∷ bytes) in
      rw other
      (ap (onto_first byte) (lines-first (next ∷ bytes) (omega arith))
      ∙ ap (λ (line : List ℕ). line ∷ lines_of (drop (place + 1) (next ∷ bytes))) (sym (take-behind byte (next ∷ bytes) place))
      ∙ ap (λ (rest : List ℕ). take (1 + place) (byte ∷ next ∷ bytes) ∷ lines_of rest) (sym (drop-behind byte (next ∷ bytes) place)))
]

lists-first : (greatest : ℕ) (text : List ℕ) → 0 < length text → number_lists_of greatest text ≡ in_front (numbers_of greatest (first_line text)) (number_lists_of greatest (after_line text))
lists-first greatest text some = ap (all_number_lists greatest) (lines-first text some)

-- one more list so far is one line less in the rest
pub after_list : (greatest : ℕ) (rest next numbers : List ℕ) (lists more : List (List ℕ)) (all : Option (List (List ℕ))) → 0 < length rest → next ≡ after_line rest
    → numbers_of greatest (first_line rest) ≡ Some numbers → more ≡ lists ++ numbers ∷ [] → before lists (number_lists_of greatest rest) ≡ all → before more (number_lists_of greatest next) ≡ all
after_list greatest rest next numbers lists more all some follows listed one kept =
    ap (λ (ls : List (List ℕ)). before ls (number_lists_of greatest next)) one
    ∙ before-push lists numbers (number_lists_of greatest next)
    ∙ ap (λ (text : List ℕ). before lists (in_front (Some numbers) (number_lists_of greatest text))) follows
    ∙ ap (λ (o : Option (List ℕ)). before lists (in_front o (number_lists_of greatest (after_line rest)))) (sym listed)
    ∙ ap (before lists) (sym (lists-first greatest rest some))
    ∙ kept

-- a line that is no list spoils the text
pub at_bad_line : (greatest : ℕ) (rest : List ℕ) (lists : List (List ℕ)) (all : Option (List (List ℕ))) → 0 < length rest
    → numbers_of greatest (first_line rest) ≡ None → before lists (number_lists_of greatest rest) ≡ all → all ≡ None
at_bad_line greatest rest lists all some bad kept =
    sym kept ∙ ap (before lists) (lists-first greatest rest some ∙ ap (λ (o : Option (List ℕ)). in_front o (number_lists_of greatest (after_line rest))) bad)
