-- A bit more and a bit less in words of which the last one may be unfinished.
use Rattle.std.proofs.Common.{◌≡◌, ◌<◌, ◌≤◌, ◌+◌, ◌-◌, ◌*◌, ◌/◌, ◌%◌, ◌==◌, ◌^◌, ℕ, zero, suc, Bool, true, false, List, [], ◌∷◌, ◌++◌, length, map, replicate, reverse, refl, sym, ap, ◌∙◌, arith, append-nil, append_assoc, Result, Ok, Err, inl, inr, length-append, get_or, drop, add-one, pow_pos}
use Rattle.std.proofs.lemmas.List.{reverse-append, map_push}
use Rattle.std.proofs.lemmas.List.Concat.{flat_map-append}
use native.Mathlib.Nat.{pow-zero}
use Rattle.std.proofs.lemmas.Nat.{mod_below}
use Rattle.std.proofs.Math.Nat.{mod-eq_of_lt, add-mul-mod_self_right, pow-succ'}
use Rattle.constriction_base.specs.Backends.{IsWrite}
use Rattle.constriction_symbol.specs.Bits.{bits_of, bits_of_words, bits_above, AreZeros, PadsTo, PutsLast, PutsBit, IsQueueWords, IsStackWords, TopWord, HasStackWords}
use Rattle.constriction_symbol.proofs.BitLemmas.{set_above}

pub length_bits : (k n : ℕ) → length (bits_of k n) ≡ k
length_bits zero n = refl
length_bits (suc k) n = ap suc (length_bits k _)

-- one word more behind the others
pub words_more : (w : ℕ) {W : Type 0} (number : W → ℕ) (words : List W) (word : W)
    → bits_of_words w (map number (reverse (word ∷ words))) ≡ bits_of_words w (map number (reverse words)) ++ bits_of w (number word)
words_more w number words word =
    let reversed : reverse (word ∷ words) ≡ reverse words ++ word ∷ [] = reverse-append (word ∷ []) words in
    rw (reversed, map_push, flat_map-append, append-nil) refl

-- the last word has room for the bit
pub bit_after : (before last last' : List Bool) (bit : Bool) → last' ≡ last ++ bit ∷ [] → before ++ last' ≡ (before ++ last) ++ bit ∷ []
bit_after before last last' bit more = rw more (sym (append_assoc before last (bit ∷ [])))

-- the last bit of an unfinished word comes off
pub bit_off : (before last last' : List Bool) (bit : Bool) → last ≡ last' ++ bit ∷ [] → reverse (before ++ last) ≡ bit ∷ reverse (before ++ last')
bit_off before last last' bit is =
    let all : before ++ last ≡ (before ++ last') ++ bit ∷ [] = rw is (sym (append_assoc before last' (bit ∷ []))) in
    ap reverse all ∙ reverse-append (before ++ last') (bit ∷ [])

-- above the bits of a number are zeros
pub bits_of_zero : (d : ℕ) → bits_of d 0 ≡ replicate d false
bits_of_zero zero = refl
bits_of_zero (suc d) = ap (λ bs. false ∷ bs) (bits_of_zero d)

padded : (k d n : ℕ) → n < 2 ^ k → bits_of (k + d) n ≡ bits_of k n ++ replicate d false
padded zero d n h =
    let none : n ≡ 0 = omega (arith, h, pow-zero 2) in
    let here : 0 + d ≡ d = omega arith in
    rw (none, here) (bits_of_zero d)
padded (suc k) d n h =
    let half : n / 2 < 2 ^ k = omega (arith, h, pow-succ' 2 k) in
    let here : suc k + d ≡ suc (k + d) = omega arith in
    rw here (ap (λ bs. (n % 2 == 1) ∷ bs) (padded k d (n / 2) half))

-- some bits are at least one
pub some_bits : (last : List Bool) → (last ≡ [] → ⊥) → 0 < length last
some_bits [] some = absurd (some refl)
some_bits (b ∷ bs) some = omega arith

-- a whole word has the bits that it was given, and then zeros
pub filled_up : (w k n : ℕ) → k ≤ w → n < 2 ^ k → bits_of w n ≡ bits_of k n ++ replicate (w - k) false
filled_up w k n within h =
    let all : k + (w - k) ≡ w = omega (arith, within) in
    rw all at (padded k (w - k) n h)

-- the word of the last bits goes behind the others of a queue
pub queue_closed : (w : ℕ) {W : Type 0} (number : W → ℕ) (words words' : List W) (last : List Bool) (word : W) → bits_of (length last) (number word) ≡ last → number word < 2 ^ length last → length last ≤ w → (last ≡ [] → ⊥) → words' ≡ word ∷ words
    → IsQueueWords w (bits_above w number words last) (map number (reverse words'))
queue_closed w number words words' last word has small within some is = record {
  zeros = w - length last;
  fewest = omega (arith, within, some_bits last some);
  is =
      let up : bits_of w (number word) ≡ last ++ replicate (w - length last) false = filled_up w (length last) (number word) within small ∙ ap (λ bs. bs ++ replicate (w - length last) false) has in
      rw (is, words_more w number words word, up) (sym (append_assoc (bits_of_words w (map number (reverse words))) last (replicate (w - length last) false)));
}

-- the word of the last bits of a stack, of which the last one is the one that ends the bits
pub stack_closed : (w : ℕ) {W : Type 0} (number : W → ℕ) (words words' : List W) (last : List Bool) (word : W) (bits : List Bool) → bits_of (length last) (number word) ≡ last → number word < 2 ^ length last → length last ≤ w → 0 < length last → words' ≡ word ∷ words
    → bits_above w number words last ≡ bits ++ true ∷ [] → IsStackWords w bits (map number (reverse words'))
stack_closed w number words words' last word bits has small within some is ends = record {
  zeros = w - length last;
  fewest = omega (arith, within, some);
  is =
      let up : bits_of w (number word) ≡ last ++ replicate (w - length last) false = filled_up w (length last) (number word) within small ∙ ap (λ bs. bs ++ replicate (w - length last) false) has in
      let all : bits_of_words w (map number (reverse words')) ≡ bits_above w number words last ++ replicate (w - length last) false =
      rw (is, words_more w number words word, up) (sym (append_assoc (bits_of_words w (map number (reverse words))) last (replicate (w - length last) false))) in
      all ∙ (ap (λ bs. bs ++ replicate (w - length last) false) ends ∙ append_assoc bits (true ∷ []) (replicate (w - length last) false));
}

-- the word that ends a stack was taken off
pub stack_opened : (w : ℕ) {W : Type 0} (number : W → ℕ) (words words' : List W) (last : List Bool) (word : W) → TopWord w last (number word) → words ≡ word ∷ words'
    → HasStackWords w (bits_above w number words' last) (map number (reverse words))
stack_opened w number words words' last word top is =
    let all : bits_of_words w (map number (reverse words)) ≡ bits_above w number words' last ++ true ∷ replicate top.zeros false =
    rw (is, words_more w number words' word, top.is) (sym (append_assoc (bits_of_words w (map number (reverse words'))) last (true ∷ replicate top.zeros false))) in
    some_words w _ (map number (reverse words)) (record { zeros = top.zeros; fewest = top.fewest; is = all })
  where
    some_words : (v : ℕ) (bits : List Bool) (ns : List ℕ) → IsStackWords v bits ns → HasStackWords v bits ns
    some_words v bits [] h = absurd (no_end bits h.zeros h.is)
      where
        no_end : (bs : List Bool) (k : ℕ) → [] ≡ bs ++ true ∷ replicate k false → ⊥
        no_end [] k e = cc
        no_end (b ∷ bs) k e = cc
    some_words v bits (n ∷ ns) h = h

-- the bits below the highest that is set
pub top_word : (w n count len : ℕ) (low : ℕ) → 0 < n → n < 2 ^ len → 2 ^ len ≤ 2 * n + 1 → len ≤ w → count ≡ len - 1 → low ≡ n % 2 ^ count → TopWord w (bits_of count low) n
top_word w n count zero low some high least within is rest = absurd (omega (arith, some, high, pow-zero 2))
top_word w n count (suc k) low some high least within is rest =
    let one : count ≡ k = omega (arith, is) in
    let two = pow-succ' 2 k in
    let small : n % 2 ^ k < 2 ^ k = mod_below n (2 ^ k) (pow_pos k) in
    let split : n ≡ n % 2 ^ k + 2 ^ k = top_bit_split k n (omega (arith, least, two)) (omega (arith, high, two)) in
    record {
      zeros = w - suc k;
      fewest = omega (arith, within);
      is =
          rw (rest, one)
          (filled_up w (suc k) n within high
          ∙ (ap (λ bs. bs ++ replicate (w - suc k) false) (rw add-one at (set_above k (n % 2 ^ k) n small split)) ∙ append_assoc (bits_of k (n % 2 ^ k)) (true ∷ []) (replicate (w - suc k) false)));
    }
  where
    top_bit_split : (j m : ℕ) → 2 ^ j ≤ m → m < 2 * 2 ^ j → m ≡ m % 2 ^ j + 2 ^ j
    top_bit_split j m low_bound high_bound =
        let less : m - 2 ^ j < 2 ^ j = omega (arith, low_bound, high_bound) in
        let back : m - 2 ^ j + 1 * 2 ^ j ≡ m = omega (arith, low_bound) in
        let same : m % 2 ^ j ≡ m - 2 ^ j = ap (λ x. x % 2 ^ j) (sym back) ∙ (add-mul-mod_self_right (m - 2 ^ j) 1 (2 ^ j) ∙ mod-eq_of_lt less) in
        omega (arith, same, low_bound)

-- after a bit was put, the last word has one
pub put_some : {W B E : Type 0} (w : ℕ) (number : W → ℕ) (write : B → W → Result (Unit {0}) E → B → Type 0) (last last' : List Bool) (backend backend' : B) (bit : Bool) → PutsLast w number write last backend bit (Ok tt) last' backend' → 0 < length last'
put_some w number write last last' backend backend' bit (inl (within, more, same)) = rw more (omega (arith, length-append last (bit ∷ [])))
put_some w number write last last' backend backend' bit (inr (full, more, written)) = rw more (omega arith)

-- a whole word begins with the bits that it was given
pub word_padded : (w : ℕ) (last : List Bool) (n : ℕ) → bits_of (length last) n ≡ last → n < 2 ^ length last → length last ≤ w → 0 < length last → PadsTo w last (bits_of w n)
word_padded w last n has small within some =
    (w - length last, omega (arith, within, some), filled_up w (length last) n within small ∙ ap (λ bs. bs ++ replicate (w - length last) false) has)

-- the full last word was written, and a bit begins the next
pub bit_after_flush : (w : ℕ) {W : Type 0} (number : W → ℕ) (words words' : List W) (full : W) (last last' : List Bool) (bit : Bool) → bits_of w (number full) ≡ last → last' ≡ bit ∷ [] → words' ≡ full ∷ words
    → bits_above w number words' last' ≡ bits_above w number words last ++ bit ∷ []
bit_after_flush w number words words' full last last' bit has begun more = rw (begun, more, words_more w number words full, has) refl

-- what putting a bit into the last word makes of all bits
pub puts_bits : {W B E : Type 0} (w : ℕ) (number : W → ℕ) (words : B → List W) (room : B → ℕ) (writes : B → W → Result (Unit {0}) E → B → Type 0) (fails : B → E → Type 0) (last last' : List Bool) (backend backend' : B) (bit : Bool) (r : Result (Unit {0}) E)
    → PutsLast w number (IsWrite words room writes fails) last backend bit r last' backend' → PutsBit (bits_above w number (words backend) last) bit r (bits_above w number (words backend') last')
puts_bits w number words room writes fails last last' backend backend' bit (Ok _) (inl (within, more, same)) =
    rw (more, same) (sym (append_assoc (bits_of_words w (map number (reverse (words backend)))) last (bit ∷ [])))
puts_bits w number words room writes fails last last' backend backend' bit (Ok _) (inr (full, more, (word, has, (follows, left, by)))) =
    rw (more, follows, words_more w number (words backend) word, has) refl
puts_bits w number words room writes fails last last' backend backend' bit (Err e) (full, same, (word, has, (held, refused, by))) = rw (same, held) refl

-- all bits of a number are zeros exactly where it is 0
no_bit_set : (k n : ℕ) → n < 2 ^ k → bits_of k n ≡ replicate k false → n ≡ 0
no_bit_set zero n h zeros = omega (arith, h, pow-zero 2)
no_bit_set (suc k) n h zeros =
    let low : (n % 2 == 1) ≡ false = ap (λ bs. get_or bs 0 false) zeros in
    let high : n / 2 ≡ 0 = no_bit_set k (n / 2) (omega (arith, h, pow-succ' 2 k)) (ap (λ bs. drop 1 bs) zeros) in
    let even : n % 2 ≡ 0 = grind (arith, low) in
    omega (arith, even, high)

pub zeros_of : (k n : ℕ) → n < 2 ^ k → (AreZeros (bits_of k n) → n ≡ 0) × (n ≡ 0 → AreZeros (bits_of k n))
zeros_of k n h = (
  λ zeros. no_bit_set k n h (rw (length_bits k n) at zeros),
  λ none. rw (length_bits, none) (bits_of_zero k),
)
