-- Words of codewords from a bit of a caller's words on.
use Rattle.std.proofs.Common.{◌≡◌, ◌<◌, ◌≤◌, ◌+◌, ◌*◌, ◌/◌, ◌%◌, ℕ, Bool, List, ◌++◌, Option, false, replicate, length, map, take, ap, sym, arith, ◌∙◌, append_assoc, length-append}
use Rattle.std.proofs.lemmas.List.{length-map, length-take-le, length-take}
use Rattle.std.proofs.Math.Nat.{div-add-mod, mul_comm}
use Rattle.constriction_symbol.specs.Bits.{IsQueueWords}
use Rattle.constriction_symbol.proofs.Lengths.{length_words}
use Rattle.constriction_symbol.specs.Lists.{AreCodewords}
use Rattle.constriction_calls.specs.SymbolBits.{AreWordsFrom, TooShortFromBit}
use Rattle.constriction_symbol.proofs.BitPlaces.{before, behind, below_bit, halves, of_both, place, whole}

module _ {W : Type 0} (number : W → ℕ) (w bit : ℕ) (words : List W) (within : bit ≤ length words * w) where
  -- the words of a queue that begins with the bits below the bit in its word
  module _ (begun code : List Bool) (is : begun ≡ take (bit % w) (behind number w bit words within)) where
    pub words_from : (added : List W) → IsQueueWords w (begun ++ code) (map number added) → AreWordsFrom w (map number words) bit code (map number (take (bit / w) words ++ added))
    words_from added held =
        let zeros = replicate held.zeros false in
        record {
          zeros = held.zeros;
          fewest = held.fewest;
          is = of_both number w bit words within (take (bit / w) words) added
              ∙ (ap (λ bs. (before number w bit words within) ++ bs) held.is
              ∙ (sym (append_assoc (before number w bit words within) (begun ++ code) zeros)
              ∙ (ap (λ bs. bs ++ zeros) (sym (append_assoc (before number w bit words within) begun code))
              ∙ ap (λ bs. (bs ++ code) ++ zeros) (ap (λ bs. (before number w bit words within) ++ bs) is ∙ sym (below_bit number w bit words within)))));
        }

    pub end_bit : (count : ℕ) → count ≡ length (begun ++ code) → bit / w * w + count ≡ bit + length code
    end_bit count counted =
        let all = length_words w (map number words) ∙ ap (λ n. n * w) (length-map words number) in
        let size = ap length (halves number w bit words within) ∙ length-append (before number w bit words within) (behind number w bit words within) in
        omega (arith, within, counted, (whole number w bit words within), all, size, (ap length is ∙ length-take (bit % w) (behind number w bit words within)), length-append begun code, div-add-mod bit w, mul_comm w (bit / w))

  -- there is no room for the words of symbols
  pub lacks_room : {S : Type 0} (codeword : S → Option (List Bool)) (symbols : List S) (code : List Bool) (added : List W) → AreCodewords codeword symbols code
      → AreWordsFrom w (map number words) bit code (map number (take (bit / w) words ++ added)) → length words < bit / w + length added → TooShortFromBit w codeword symbols (map number words) bit (bit / w + length added)
  lacks_room codeword symbols code added coded held less =
      let all = length-map (take (bit / w) words ++ added) number ∙ (length-append (take (bit / w) words) added ∙ ap (λ n. n + length added) (length-take-le (bit / w) words (place number w bit words within))) in
      (code, map number (take (bit / w) words ++ added), coded, held, sym all, rw (length-map words number) less)
