-- Words that move in below a number.
use Rattle.std.specs.Prelude.{◌≡◌, ℕ, ◌+◌, ◌*◌, ◌^◌, List, [], ◌∷◌, ◌++◌, map, Some, Ok}
use Rattle.std.proofs.Common.{refl, sym, ap, ◌∙◌, ◌/◌, ◌<◌, ◌≤◌, append_assoc, arith, pow-add}
use Rattle.std.proofs.lemmas.Nat.{mul-add-lt}
use Rattle.std.proofs.lemmas.Int.Digits.{number_after_append}
use Rattle.std.proofs.lemmas.List.{map_push}
use Rattle.constriction_base.specs.Readings.{MovesIn}
use Rattle.constriction_base.specs.declared.backends.reading.Holds as holding
use Rattle.constriction_base.specs.declared.backends.reading.ReadWords as reading
use Rattle.constriction_base.proofs.Exporting.{gives_push}
use Rattle.constriction_base.proofs.Heads.{small_of_shr}
use Rattle.constriction_base.proofs.Sizes.{pow_le}

-- a number below a power has room for a word
pub room_below : (bits w s n v : ℕ) → bits + w ≤ s → n / 2 ^ bits ≡ 0 → v < 2 ^ w → (n * 2 ^ w + v < 2 ^ (bits + w)) × (n * 2 ^ w + v < 2 ^ s)
room_below bits w s n v within low fits =
    let less = mul-add-lt n (2 ^ w) v (2 ^ bits) (small_of_shr n bits low) fits in
    let is = pow-add 2 bits w in
    let upto = pow_le (bits + w) s within in
    (omega (arith, less, is), omega (arith, less, is, upto))

module _ {W B E S : Type 0} (number : W → ℕ) (holds : holding.Ghosts B W S) (reads : reading.Ghosts B W S E) (w from : ℕ) where
  -- no word has moved in yet
  pub moves_none : (old : B) → MovesIn number holds reads w from old from old
  moves_none old = record { words = []; given = refl; taken = λ list. refl; is = refl }

  -- one more word moves in
  pub moves_more : (n new_n : ℕ) (old last new : B) (word : W)
      → MovesIn number holds reads w from old n last → reads.reads last (Ok (Some word)) new → (holds.is_list → holds.words last ≡ word ∷ holds.words new) → new_n ≡ n * 2 ^ w + number word
      → MovesIn number holds reads w from old new_n new
  moves_more n new_n old last new word i read top is =
      record {
        words = i.words ++ word ∷ [];
        given = gives_push reads.reads old last new i.words word i.given read;
        taken = λ list. i.taken list ∙ (ap (λ (ws : List W). i.words ++ ws) (top list) ∙ sym (append_assoc i.words (word ∷ []) (holds.words new)));
        is = rw (map_push number i.words word, number_after_append (2 ^ w) from (map number i.words) (number word ∷ []), ← i.is) is;
      }
