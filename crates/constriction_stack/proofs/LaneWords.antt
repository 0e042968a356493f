-- The words in use of a buffer as a stack: none, or a top word above the others.
use Rattle.std.proofs.Common.{◌≡◌, ◌∙◌, ℕ, zero, suc, drop, ◌+◌, ◌-◌, ◌*◌, ◌%◌, ◌^◌, ◌<◌, ◌≤◌, List, [], ◌∷◌, ◌++◌, length, map, take, reverse, get_or, set, refl, sym, ap, arith}
use Rattle.std.proofs.lemmas.List.{length-take, take-set-le, take-take, take_more, take_more_set}
use Rattle.std.proofs.lemmas.Nat.{pow_pos, mul-add-lt, mod_below}
use Rattle.constriction_base.proofs.Ends.{reverse_push}
use Rattle.constriction_base.proofs.Heads.{pow-split}
use Rattle.constriction_stack.specs.Ans.{AnsState}

-- the first words of a buffer as a stack, the last of them on top
abbrev pub stack_in : {W : Type 0} → (W → ℕ) → List W → ℕ → List ℕ
stack_in number buffer len = map number (reverse (take len buffer))

pub none_in : {W : Type 0} (number : W → ℕ) (buffer : List W) (len : ℕ) → len ≡ 0 → stack_in number buffer len ≡ []
none_in number buffer len e = rw e refl

pub top_in : {W : Type 0} (number : W → ℕ) (buffer : List W) (len : ℕ) (word : W) → 0 < len → len ≤ length buffer → word ≡ get_or buffer (len - 1) word
    → stack_in number buffer len ≡ number word ∷ stack_in number buffer (len - 1)
top_in {W} number buffer len word some within is =
    let one : len - 1 + 1 ≡ len = omega arith in
    let parts : take len buffer ≡ take (len - 1) buffer ++ get_or buffer (len - 1) word ∷ [] = ap (λ (n : ℕ). take n buffer) (sym one) ∙ take_more buffer (len - 1) word (omega arith) in
    ap (λ (ws : List W). map number (reverse ws)) (parts ∙ ap (λ (x : W). take (len - 1) buffer ++ x ∷ []) (sym is)) ∙ ap (map number) (reverse_push (take (len - 1) buffer) word)

-- the low bits of a head, and a word behind them, fit a head
pub room_for_low : (s w x word : ℕ) → w ≤ s → word < 2 ^ w → x % 2 ^ (s - w) * 2 ^ w + word < 2 ^ s
room_for_low s w x word h f =
    let below = mod_below x (2 ^ (s - w)) (pow_pos (s - w)) in
    let fits = mul-add-lt (x % 2 ^ (s - w)) (2 ^ w) word (2 ^ (s - w)) below f in
    let is = pow-split s w h in
    omega arith

-- a word that is written above the words in use
pub same_in : {W : Type 0} (number : W → ℕ) (buffer : List W) (len : ℕ) (word : W) → stack_in number (set buffer len word) len ≡ stack_in number buffer len
same_in number buffer len word = ap (λ ws. map number (reverse ws)) (take-set-le len buffer len word (omega arith))

pub more_in : {W : Type 0} (number : W → ℕ) (buffer : List W) (len : ℕ) (word : W) → len < length buffer
    → stack_in number (set buffer len word) (len + 1) ≡ number word ∷ stack_in number buffer len
more_in {W} number buffer len word within =
    ap (λ (ws : List W). map number (reverse ws)) (take_more_set buffer len word within) ∙ ap (map number) (reverse_push (take len buffer) word)

-- the words behind those in use, as far as they count: none, or the one that is written
pub none_behind : {W : Type 0} (number : W → ℕ) (buffer : List W) (len : ℕ) (word : W) → stack_in number (drop len (set buffer len word)) (len - len) ≡ []
none_behind number buffer len word = none_in number (drop len (set buffer len word)) (len - len) (omega arith)

one_taken : {W : Type 0} (buffer : List W) (len : ℕ) (word : W) → len < length buffer → take 1 (drop len (set buffer len word)) ≡ word ∷ []
one_taken [] len word within = absurd (omega (arith, within))
one_taken (x ∷ xs) zero word within = refl
one_taken (x ∷ xs) (suc len) word within = one_taken xs len word (omega (arith, within))

pub one_behind : {W : Type 0} (number : W → ℕ) (buffer : List W) (len : ℕ) (word : W) → len < length buffer
    → stack_in number (drop len (set buffer len word)) (len + 1 - len) ≡ number word ∷ []
one_behind {W} number buffer len word within =
    let one : len + 1 - len ≡ 1 = omega arith in
    ap (λ n. stack_in number (drop len (set buffer len word)) n) one ∙ ap (λ (ws : List W). map number (reverse ws)) (one_taken buffer len word within)

-- the state of a coder that reads the first words of a buffer
pub lent_state : {W : Type 0} (number : W → ℕ) (head pos left len : ℕ) (lent words : List W) → lent ≡ take len words → pos ≤ length lent → left ≡ pos
    → ◌≡◌ {A = AnsState} (record { head = head; words = map number (reverse (take pos lent)) }) (record { head = head; words = stack_in number words left })
lent_state number head pos left len lent words is within same = rw (is, same, take-take pos len words (omega (arith, length-take len words, ap length is))) refl
