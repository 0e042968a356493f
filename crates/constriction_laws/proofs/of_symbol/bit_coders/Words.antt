-- Bits have one list of words, as a queue and as a stack.
use Rattle.std.proofs.Common.{◌≡◌, ◌<◌, ◌≤◌, ◌+◌, ◌*◌, ℕ, suc, Bool, true, false, List, [], ◌∷◌, ◌++◌, length, replicate, refl, sym, ap, ap₂, ◌∙◌, arith, length-append}
use Rattle.std.proofs.lemmas.List.{length-replicate, append_cancel_left}
use native.Mathlib.Nat.{mul-le-mul_right}
use Rattle.constriction_base.specs.Steps.{AreWords}
use Rattle.constriction_symbol.specs.Bits.{bits_of, bits_of_words, IsQueueWords, IsStackWords}
use Rattle.constriction_symbol.specs.GolombLaws.{same_front}
use Rattle.constriction_symbol.proofs.Coding.{length_bits}
use Rattle.constriction_symbol.proofs.Equal.{same_number}
use Rattle.constriction_symbol.proofs.Lengths.{length_words}

-- a number of which less than a word is missing to whole words has one such number of words
not_fewer : (a b w n z y : ℕ) → z < w → y < w → a * w ≡ n + z → b * w ≡ n + y → a < b → ⊥
not_fewer a b w n z y low high first second less =
    let more : suc a * w ≤ b * w = mul-le-mul_right w less in
    omega (arith, more, first, second, low, high)

one_count : (a b w n z y : ℕ) → z < w → y < w → a * w ≡ n + z → b * w ≡ n + y → a ≡ b
one_count a b w n z y low high first second =
    let up = not_fewer a b w n z y low high first second in
    let down = not_fewer b a w n y z high low second first in
    omega (arith, up, down)

-- as many words with the same bits are the same
same_words : (w : ℕ) (vs us : List ℕ) → AreWords w vs → AreWords w us → length vs ≡ length us → bits_of_words w vs ≡ bits_of_words w us → vs ≡ us
same_words w [] [] small fit count is = refl
same_words w [] (u ∷ us) small fit count is = absurd (omega (arith, count))
same_words w (v ∷ vs) [] small fit count is = absurd (omega (arith, count))
same_words w (v ∷ vs) (u ∷ us) small fit count is =
    let first : bits_of w v ≡ bits_of w u = same_front (bits_of w v) (bits_of w u) (bits_of_words w vs) (bits_of_words w us) (length_bits w v ∙ sym (length_bits w u)) is in
    let rest = append_cancel_left (bits_of w v) (bits_of_words w vs) (bits_of_words w us) (is ∙ ap (λ bs. bs ++ bits_of_words w us) (sym first)) in
    ap₂ (λ x xs. x ∷ xs) (same_number w v u small.0 fit.0 first) (same_words w vs us small.1 fit.1 (omega (arith, count)) rest)

-- the same bits and then zeros, of which there are fewer than a word has
one_list : (w : ℕ) (bits : List Bool) (z y : ℕ) (vs us : List ℕ) → AreWords w vs → AreWords w us → z < w → y < w → bits_of_words w vs ≡ bits ++ replicate z false → bits_of_words w us ≡ bits ++ replicate y false → vs ≡ us
one_list w bits z y vs us small fit low high first second =
    let long : length vs * w ≡ length bits + z = omega (arith, length_words w vs, ap length first, length-append bits (replicate z false), length-replicate z false) in
    let wide : length us * w ≡ length bits + y = omega (arith, length_words w us, ap length second, length-append bits (replicate y false), length-replicate y false) in
    let count = one_count (length vs) (length us) w (length bits) z y low high long wide in
    let zeros : z ≡ y = omega (arith, long, wide, ap (λ k. k * w) count) in
    same_words w vs us small fit count (first ∙ (ap (λ k. bits ++ replicate k false) zeros ∙ sym second))

pub one_list_of_queue : (w : ℕ) (bits : List Bool) (vs us : List ℕ) → AreWords w vs → AreWords w us → IsQueueWords w bits vs → IsQueueWords w bits us → vs ≡ us
one_list_of_queue w bits vs us small fit first second = one_list w bits first.zeros second.zeros vs us small fit first.fewest second.fewest first.is second.is

pub one_list_of_stack : (w : ℕ) (bits : List Bool) (vs us : List ℕ) → AreWords w vs → AreWords w us → IsStackWords w bits vs → IsStackWords w bits us → vs ≡ us
one_list_of_stack w bits vs us small fit first second =
    one_list w (bits ++ true ∷ []) first.zeros second.zeros vs us small fit first.fewest second.fewest
    (first.is ∙ ended bits (replicate first.zeros false)) (second.is ∙ ended bits (replicate second.zeros false))
  where
    ended : (bs tail : List Bool) → bs ++ true ∷ tail ≡ (bs ++ true ∷ []) ++ tail
    ended [] tail = refl
    ended (b ∷ bs) tail = ap (λ ys. b ∷ ys) (ended bs tail)
