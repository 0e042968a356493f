-- The words that hold the bits of a queue or a stack, and reads and writes of bits.
use Rattle.std.specs.Prelude.{◌≡◌, ℕ, ◌/◌, ◌^◌, ◌<◌, ◌≤◌, ◌+◌, ◌-◌, Bool, true, false, List, [], ◌∷◌, ◌++◌, ◌⊎◌, flat_map, map, replicate, reverse, length, Result, Ok, Err, Option, Some, None}
use Rattle.constriction_base.specs.Backends.{IsWrite}
pub use Rattle.constriction_words.specs.Bits.{bits_of}

-- The bits of words of w bits, word by word.
abbrev pub bits_of_words : ℕ → List ℕ → List Bool
bits_of_words w words = flat_map (bits_of w) words

-- The words hold the bits of a queue: the bits, and zeros up to a whole word.
pub record IsQueueWords (w : ℕ) (bits : List Bool) (words : List ℕ) : Type 0 where
  pub zeros : ℕ
  pub fewest : zeros < w
  pub is : bits_of_words w words ≡ bits ++ replicate zeros false

-- The words hold the bits of a stack: the bits, a 1, and zeros up to a whole word.
pub record IsStackWords (w : ℕ) (bits : List Bool) (words : List ℕ) : Type 0 where
  pub zeros : ℕ
  pub fewest : zeros < w
  pub is : bits_of_words w words ≡ bits ++ true ∷ replicate zeros false

-- The word ends a stack: from the lowest bit to the highest, it has these bits, a 1, and zeros.
pub record TopWord (w : ℕ) (bits : List Bool) (word : ℕ) : Type 0 where
  pub zeros : ℕ
  pub fewest : zeros < w
  pub is : bits_of w word ≡ bits ++ true ∷ replicate zeros false

-- The words hold the bits of a stack. An empty list of words holds no bits.
abbrev pub HasStackWords : ℕ → List Bool → List ℕ → Type 0
HasStackWords w bits [] = bits ≡ []
HasStackWords w bits (v ∷ vs) = IsStackWords w bits (v ∷ vs)

-- The value of a bit coder: all its bits, the bits outside the words of the backend, and the backend.
pub record BitsValue (B : Type 0) : Type 0 where
  pub bits : List Bool
  pub last : List Bool
  pub backend : B

-- The bits of a backend's words, from the word to be read last to the word to be read first, and then `last`.
abbrev pub bits_above : {W : Type 0} → ℕ → (W → ℕ) → List W → List Bool → List Bool
bits_above w number words last = bits_of_words w (map number (reverse words)) ++ last

-- The bits `last`, and then the bits of a backend's words in reading order.
abbrev pub bits_behind : {W : Type 0} → ℕ → (W → ℕ) → List Bool → List W → List Bool
bits_behind w number last words = last ++ bits_of_words w (map number words)

-- A word with exactly these bits is written. `write` relates a backend, a word, the answer and the backend afterwards.
abbrev pub WritesBits : {W B E : Type 0} → ℕ → (W → ℕ) → (B → W → Result (Unit {0}) E → B → Type 0) → List Bool → B
    → Result (Unit {0}) E → B → Type 0
WritesBits {W} w number write bits backend r backend' =
    (word : W) × (bits_of w (number word) ≡ bits) × write backend word r backend'

-- A bit is appended to the last word. A full last word is written first, and the bit begins the next word. If the write
-- is refused, the last word stays.
abbrev pub PutsLast : {W B E : Type 0} → ℕ → (W → ℕ) → (B → W → Result (Unit {0}) E → B → Type 0) → List Bool → B → Bool
    → Result (Unit {0}) E → List Bool → B → Type 0
PutsLast w number write last backend bit (Ok _) last' backend' =
    ((length last < w) × (last' ≡ last ++ bit ∷ []) × (backend' ≡ backend))
    ⊎ ((length last ≡ w) × (last' ≡ bit ∷ []) × WritesBits w number write last backend (Ok tt) backend')
PutsLast w number write last backend bit (Err e) last' backend' =
    (length last ≡ w) × (last' ≡ last) × WritesBits w number write last backend (Err e) backend'

-- A bit is appended to a coder's value: its last word and its backend.
abbrev pub PutsOnto : {W B E : Type 0} → ℕ → (W → ℕ) → (B → W → Result (Unit {0}) E → B → Type 0) → BitsValue B → Bool
    → Result (Unit {0}) E → BitsValue B → Type 0
PutsOnto w number write old bit r new = PutsLast w number write old.last old.backend bit r new.last new.backend

-- A bit is appended to the bits; an error leaves them unchanged.
abbrev pub PutsBit : {E : Type 0} → List Bool → Bool → Result (Unit {0}) E → List Bool → Type 0
PutsBit old bit (Ok _) new = new ≡ old ++ bit ∷ []
PutsBit old bit (Err _) new = new ≡ old

-- The last bit of the last word is removed. If the last word is empty, a word is read, and its last bit is removed. If
-- no word is left, or the read is refused, the last word stays empty.
abbrev pub LastBitRead : {W B E : Type 0} → ℕ → (W → ℕ) → (B → Result (Option W) E → B → Type 0) → List Bool → B
    → Option (Result Bool E) → List Bool → B → Type 0
LastBitRead {W} w number reads last backend (Some (Ok bit)) last' backend' =
    ((last ≡ last' ++ bit ∷ []) × (backend' ≡ backend))
    ⊎ ((word : W) × (last ≡ []) × reads backend (Ok (Some word)) backend' × (bits_of w (number word) ≡ last' ++ bit ∷ []))
LastBitRead w number reads last backend None last' backend' =
    (last ≡ []) × (last' ≡ []) × reads backend (Ok None) backend'
LastBitRead w number reads last backend (Some (Err e)) last' backend' =
    (last ≡ []) × (last' ≡ []) × reads backend (Err e) backend'

-- The first bit of the current word is removed. If the current word is empty, the next word is read first. If no word
-- is left, or the read is refused, the current word stays empty.
abbrev pub FirstBitRead : {W B E : Type 0} → ℕ → (W → ℕ) → (B → Result (Option W) E → B → Type 0) → List Bool → B
    → Option (Result Bool E) → List Bool → B → Type 0
FirstBitRead {W} w number reads last backend (Some (Ok bit)) last' backend' =
    ((last ≡ bit ∷ last') × (backend' ≡ backend))
    ⊎ ((word : W) × (last ≡ []) × reads backend (Ok (Some word)) backend' × (bits_of w (number word) ≡ bit ∷ last'))
FirstBitRead w number reads last backend None last' backend' =
    (last ≡ []) × (last' ≡ []) × reads backend (Ok None) backend'
FirstBitRead w number reads last backend (Some (Err e)) last' backend' =
    (last ≡ []) × (last' ≡ []) × reads backend (Err e) backend'

-- Bits are appended to the last word. If not all of them fit, the first bits fill the last word, and it is written. The
-- other bits (at least one) begin the next word. If the write is refused, the filled word stays.
abbrev pub PutsBits : {W B E : Type 0} → ℕ → (W → ℕ) → (B → W → Result (Unit {0}) E → B → Type 0) → List Bool → B
    → List Bool → Result (Unit {0}) E → List Bool → B → Type 0
PutsBits w number write last backend bits (Ok _) last' backend' =
    ((length last + length bits ≤ w) × (last' ≡ last ++ bits) × (backend' ≡ backend))
    ⊎ ((front : List Bool) × (bit : Bool) × (back : List Bool) × (bits ≡ front ++ bit ∷ back) × (length (last ++ front) ≡ w) × (length back < w)
    × (last' ≡ bit ∷ back) × WritesBits w number write (last ++ front) backend (Ok tt) backend')
PutsBits w number write last backend bits (Err e) last' backend' =
    (front : List Bool) × (bit : Bool) × (back : List Bool) × (bits ≡ front ++ bit ∷ back)
    × (length (last ++ front) ≡ w)
    × (last' ≡ last ++ front) × WritesBits w number write (last ++ front) backend (Err e) backend'

-- The `count` lowest bits of a word are appended to the last word, lowest first, as in `PutsBits`.
abbrev pub PutsLowest : {W B E : Type 0} → ℕ → (W → ℕ) → (B → W → Result (Unit {0}) E → B → Type 0) → List Bool → B
    → ℕ → W → Result (Unit {0}) E → List Bool → B → Type 0
PutsLowest w number write last backend count word r last' backend' =
    PutsBits w number write last backend (bits_of count (number word)) r last' backend'

-- A read gives the next bit, or finds no bit left. An error leaves the bits unchanged.
abbrev pub YieldsBit : {E : Type 0} → List Bool → Option (Result Bool E) → List Bool → Type 0
YieldsBit old (Some (Ok bit)) new = old ≡ bit ∷ new
YieldsBit old None new = (old ≡ []) × (new ≡ [])
YieldsBit old (Some (Err _)) new = new ≡ old

-- A read gives the last bit of a stack, which has the bits of a backend's words and then those of `last`.
abbrev pub YieldsLastBit : {W B E : Type 0} → ℕ → (W → ℕ) → (B → List W) → List Bool → B
    → Option (Result Bool E) → List Bool → B → Type 0
YieldsLastBit w number words last backend item last' backend' =
    YieldsBit (reverse (bits_above w number (words backend) last)) item
    (reverse (bits_above w number (words backend') last'))

-- A read gives the first bit of a queue, which has the bits of `last` and then those of a backend's words.
abbrev pub YieldsFirstBit : {W B E : Type 0} → ℕ → (W → ℕ) → (B → List W) → List Bool → B
    → Option (Result Bool E) → List Bool → B → Type 0
YieldsFirstBit w number words last backend item last' backend' =
    YieldsBit (bits_behind w number last (words backend)) item (bits_behind w number last' (words backend'))

-- A read takes the last bit off a stack. If `is_list` holds, the coder's bits change as in `YieldsBit`.
abbrev pub PopsBit : {W B E : Type 0} → ℕ → (W → ℕ) → Type 0 → (B → Result (Option W) E → B → Type 0) → BitsValue B
    → Option (Result Bool E) → BitsValue B → Type 0
PopsBit w number is_list reads old item new =
    LastBitRead w number reads old.last old.backend item new.last new.backend
    × (is_list → YieldsBit (reverse old.bits) item (reverse new.bits))

-- A read takes the first bit from a queue. If `is_list` holds, the coder's bits change as in `YieldsBit`.
abbrev pub BitRead : {W B E : Type 0} → ℕ → (W → ℕ) → Type 0 → (B → Result (Option W) E → B → Type 0) → BitsValue B
    → Option (Result Bool E) → BitsValue B → Type 0
BitRead w number is_list reads old item new =
    FirstBitRead w number reads old.last old.backend item new.last new.backend
    × (is_list → YieldsBit old.bits item new.bits)

-- All bits of the list are 0.
abbrev pub AreZeros : List Bool → Type 0
AreZeros bits = bits ≡ replicate (length bits) false

-- The padded bits are the bits and then fewer than w zeros.
abbrev pub PadsTo : ℕ → List Bool → List Bool → Type 0
PadsTo w bits padded = (zeros : ℕ) × (zeros < w) × (padded ≡ bits ++ replicate zeros false)

-- A word is written. Its lowest bits are these bits (at least one), and all other bits are 0.
abbrev pub WritesPadded : {W B E : Type 0} → ℕ → (W → ℕ) → (B → W → Result (Unit {0}) E → B → Type 0) → List Bool → B
    → Result (Unit {0}) E → B → Type 0
WritesPadded {W} w number write bits backend r backend' =
    (word : W) × PadsTo w bits (bits_of w (number word)) × write backend word r backend'

-- A stack is ended: a 1 is appended, and the last word is written. If a write is refused, the answer is its error.
abbrev pub ClosesStack : {W B E : Type 0} → ℕ → (W → ℕ) → (B → W → Result (Unit {0}) E → B → Type 0) → List Bool → B
    → Result B E → Type 0
ClosesStack {B = B} w number write last backend (Ok all) =
    (top : List Bool) × (between : B) × PutsLast w number write last backend true (Ok tt) top between
    × WritesPadded w number write top between (Ok tt) all
ClosesStack {B = B} w number write last backend (Err e) =
    ((left : B) × PutsLast w number write last backend true (Err e) last left)
    ⊎ ((top : List Bool) × (between left : B) × PutsLast w number write last backend true (Ok tt) top between × WritesPadded w number write top between (Err e) left)

-- A stack is opened: the read word ends a stack with the bits `last`, or no word is left and there are no bits.
abbrev pub OpensStack : {W B E : Type 0} → ℕ → (W → ℕ) → (B → Result (Option W) E → B → Type 0) → B → List Bool → B
    → Type 0
OpensStack {W} w number reads old last new =
    ((last ≡ []) × reads old (Ok None) new)
    ⊎ ((word : W) × TopWord w last (number word) × reads old (Ok (Some word)) new)

-- A stack's last word, which is read first, is 0. If `is_list` holds, the backend's other words are left.
abbrev pub LastIsZero : {W B E : Type 0} → (W → ℕ) → Type 0 → (B → List W) → (B → Result (Option W) E → B → Type 0) → B
    → B → Type 0
LastIsZero {W} number is_list words reads old new =
    (word : W) × (number word ≡ 0) × reads old (Ok (Some word)) new × (is_list → words old ≡ word ∷ words new)

-- A queue is ended: its last word is written if it has bits. If the write is refused, the answer is its error.
abbrev pub ClosesQueue : {W B E : Type 0} → ℕ → (W → ℕ) → (B → W → Result (Unit {0}) E → B → Type 0) → List Bool → B
    → Result B E → Type 0
ClosesQueue w number write last backend (Ok all) =
    ((last ≡ []) × (all ≡ backend)) ⊎ ((last ≡ [] → ⊥) × WritesPadded w number write last backend (Ok tt) all)
ClosesQueue {B = B} w number write last backend (Err e) =
    (last ≡ [] → ⊥) × (left : B) × WritesPadded w number write last backend (Err e) left

-- The decoder's backend is made from the backend that ending the coder's queue leaves. If the coder has no bits outside
-- its backend, ending the queue leaves the backend unchanged.
abbrev pub ReadsClosed : {W B E D : Type 0} → ℕ → (W → ℕ) → (B → List W) → (B → W → Result (Unit {0}) E → B → Type 0)
    → (B → D → Type 0) → BitsValue B → D → Type 0
ReadsClosed {B = B} w number words write becomes coder decoder =
    (all : B) × IsQueueWords w coder.bits (map number (reverse (words all)))
    × ClosesQueue w number write coder.last coder.backend (Ok all)
    × (coder.last ≡ [] → all ≡ coder.backend) × becomes all decoder

-- The decoder's backend is made as in `ReadsClosed`, and each write obeys the backend's rules, as in `IsWrite`.
abbrev pub ReadsWritten : {W B E D : Type 0} → ℕ → (W → ℕ) → (B → List W) → (B → ℕ)
    → (B → W → Result (Unit {0}) E → B → Type 0) → (B → E → Type 0) → (B → D → Type 0) → BitsValue B → D → Type 0
ReadsWritten w number words room writes write_fails becomes coder decoder =
    ReadsClosed w number words (IsWrite words room writes write_fails) becomes coder decoder

-- The `count` highest of the w bits of a number, highest first.
abbrev pub top_bits : ℕ → ℕ → ℕ → List Bool
top_bits w count x = reverse (bits_of count (x / 2 ^ (w - count)))
