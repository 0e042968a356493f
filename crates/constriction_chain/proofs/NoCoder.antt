-- Words that stand for no chain coder.
use Rattle.std.proofs.Common.{◌≡◌, ℕ, zero, suc, ◌+◌, ◌-◌, ◌*◌, ◌/◌, ◌%◌, ◌^◌, ◌<◌, ◌≤◌, List, [], ◌∷◌, ◌++◌, length, map, drop, get_or, sym, ap, ◌∙◌, arith, inl, inr, pow_pos, div-add-mod', append-nil}
use Rattle.std.specs.Int.Digits.{digits_of, number_from_digits, number_from_digits_after}
use Rattle.std.proofs.lemmas.Int.Digits.{first_digits_of, number_after_append, number_after_ge, number_digits_of}
use Rattle.constriction_base.specs.Digits.{fixed_digits}
use Rattle.constriction_base.specs.Writing.{IsOneAbove}
use Rattle.constriction_base.specs.declared.backends.reading.Holds as holding
use Rattle.constriction_base.specs.declared.backends.reading.ReadWords as reading
use Rattle.constriction_base.specs.declared.errors.CoderError.TheVariants.{Frontend}
use Rattle.constriction_base.proofs.Exporting.{base_two}
use Rattle.constriction_chain.specs.Chain.{ChainState, IsSized, least}
use Rattle.constriction_chain.specs.Imports.{FromBinary, FromCompressed, FromRemainders}
use Rattle.constriction_chain.specs.Words.{NoHeads, NoStart, TooFew}
use Rattle.constriction_base.proofs.OneAbove.{one_rest}

-- ---- words that begin no coder

-- the digits of a number above 0 don't begin with 0
high_first : (ds cs rest : List ℕ) → 0 < get_or ds 0 0 → ds ++ cs ≡ 0 ∷ rest → ⊥
high_first [] cs rest some is = omega (arith, some)
high_first (d ∷ ds) cs rest some is = let e : d ≡ 0 = ap (λ (xs : List ℕ). get_or xs 0 0) is in omega (arith, some, e)

-- words that begin with those of a number are no less
number_over : (b r : ℕ) (cs : List ℕ) → 2 ≤ b → r ≤ number_from_digits b (digits_of b r ++ cs)
number_over b r cs two =
    let after : number_from_digits b (digits_of b r ++ cs) ≡ number_from_digits_after b r cs =
    number_after_append b 0 (digits_of b r) cs ∙ ap (λ n. number_from_digits_after b n cs) (number_digits_of b r two) in
    omega (arith, after, number_after_ge b r cs (omega (arith, two)))

-- a one above one word less
one_less : (w k r : ℕ) → IsOneAbove w (suc k) r → IsOneAbove w k (r / 2 ^ w)
one_less w k r i = (let rest = one_rest w k r i.from i.below in record { from = rest.0; below = rest.1 })

-- the words below a leading one make its number
binary_after : (w m r : ℕ) → IsOneAbove w m r → number_from_digits_after (2 ^ w) 1 (fixed_digits (2 ^ w) m r) ≡ r
binary_after w zero r i =
    let none : 0 * w ≡ 0 = omega arith in
    let below : r < 2 ^ (0 + 1) = rw none at i.below in
    let from : 2 ^ 0 ≤ r = rw none at i.from in
    omega (arith, below, from)
binary_after w (suc m) r i =
    number_after_append (2 ^ w) 1 (fixed_digits (2 ^ w) m (r / 2 ^ w)) (r % 2 ^ w ∷ [])
    ∙ (ap (λ n. n * 2 ^ w + r % 2 ^ w) (binary_after w m (r / 2 ^ w) (one_less w m r i)) ∙ div-add-mod' r (2 ^ w))

binary_over : (w m r : ℕ) (cs : List ℕ) → IsOneAbove w m r → r ≤ number_from_digits_after (2 ^ w) 1 (fixed_digits (2 ^ w) m r ++ cs)
binary_over w m r cs i =
    let after : number_from_digits_after (2 ^ w) 1 (fixed_digits (2 ^ w) m r ++ cs) ≡ number_from_digits_after (2 ^ w) r cs =
    number_after_append (2 ^ w) 1 (fixed_digits (2 ^ w) m r) cs ∙ ap (λ n. number_from_digits_after (2 ^ w) n cs) (binary_after w m r i) in
    omega (arith, after, number_after_ge (2 ^ w) r cs (pow_pos w))

module _ {W B O E : Type 0} (number : W → ℕ) (holds : holding.Ghosts B W O) (reads : reading.Ghosts B W O E) (w bound : ℕ) (list : holds.is_list) where
  pub no_start : (old rest : B) → 2 ≤ 2 ^ w → NoStart number holds reads w bound old (Frontend rest)
      → (r : ℕ) (cs : List ℕ) → 0 < r → bound ≤ r → map number (holds.words old) ≡ digits_of (2 ^ w) r ++ cs → ⊥
  no_start old rest two (inl (word, none, read)) r cs pos le is =
      let top : holds.words old ≡ word ∷ holds.words rest = read.1 list in
      high_first (digits_of (2 ^ w) r) cs (map number (holds.words rest)) (first_digits_of (2 ^ w) r two pos)
      (sym is ∙ (ap (λ (ws : List W). map number ws) top ∙ ap (λ (n : ℕ). n ∷ map number (holds.words rest)) none))
  no_start old rest two (inr (x, last, begins, small, read)) r cs pos le is =
      let none : holds.words last ≡ [] = (read.1 list).0 in
      let all : map number (holds.words old) ≡ map number begins.words = ap (λ (ws : List W). map number ws) (begins.taken list ∙ (ap (λ (ws : List W). begins.words ++ ws) none ∙ append-nil begins.words)) in
      let same : number_from_digits (2 ^ w) (digits_of (2 ^ w) r ++ cs) ≡ x = ap (λ (ds : List ℕ). number_from_digits (2 ^ w) ds) (sym is ∙ all) ∙ sym begins.is in
      omega (arith, same, number_over (2 ^ w) r cs two, le, small)

  pub too_few : (old rest : B) → TooFew number holds reads w bound 1 old (Frontend rest)
      → (m r : ℕ) (cs : List ℕ) → IsOneAbove w m r → bound ≤ r → map number (holds.words old) ≡ fixed_digits (2 ^ w) m r ++ cs → ⊥
  too_few old rest (x, stop) m r cs i le is =
      let moves = stop.moved in
      let none : holds.words stop.last ≡ [] = (stop.read.1 list).0 in
      let all : map number (holds.words old) ≡ map number moves.words = ap (λ (ws : List W). map number ws) (moves.taken list ∙ (ap (λ (ws : List W). moves.words ++ ws) none ∙ append-nil moves.words)) in
      let same : number_from_digits_after (2 ^ w) 1 (fixed_digits (2 ^ w) m r ++ cs) ≡ x = ap (λ (ds : List ℕ). number_from_digits_after (2 ^ w) 1 ds) (sym is ∙ all) ∙ sym moves.is in
      omega (arith, same, binary_over w m r cs i, le, stop.low)

  pub no_heads : (old rest : B) → 2 ≤ 2 ^ w → NoHeads number holds reads w bound old (Frontend rest)
      → (h r : ℕ) (cs : List ℕ) → 0 < h → 0 < r → bound ≤ r → map number (holds.words old) ≡ h ∷ (digits_of (2 ^ w) r ++ cs) → ⊥
  no_heads old rest two (inl read) h r cs some pos le is =
      let none : holds.words old ≡ [] = (read.1 list).0 in
      let empty : [] ≡ h ∷ (digits_of (2 ^ w) r ++ cs) = sym (ap (λ (ws : List W). map number ws) none) ∙ is in
      let e : 0 ≡ suc (length (digits_of (2 ^ w) r ++ cs)) = ap length empty in
      omega (arith, e)
  no_heads old rest two (inr (inl (word, none, read))) h r cs some pos le is =
      let top : number word ∷ map number (holds.words rest) ≡ h ∷ (digits_of (2 ^ w) r ++ cs) = sym (ap (λ (ws : List W). map number ws) (read.1 list)) ∙ is in
      let first : number word ≡ h = ap (λ (ds : List ℕ). get_or ds 0 0) top in
      omega (arith, first, none, some)
  no_heads old rest two (inr (inr (word, between, high, read, stop))) h r cs some pos le is =
      let top : number word ∷ map number (holds.words between) ≡ h ∷ (digits_of (2 ^ w) r ++ cs) = sym (ap (λ (ws : List W). map number ws) (read.1 list)) ∙ is in
      no_start between rest two stop r cs pos le (ap (λ (ds : List ℕ). drop 1 ds) top)

-- ---- so no coder has them
module _ {W B O E : Type 0} (number : W → ℕ) (holds : holding.Ghosts B W O) (reads : reading.Ghosts B W O E) (w s P : ℕ) (list : holds.is_list) (sized : IsSized w s P) where
  some_number : (x : ℕ) → least w s P ≤ x → 0 < x
  some_number x from = let some : 0 < 2 ^ (s - w - P) = pow_pos (s - w - P) in omega (arith, from, some)

  pub no_remainders : (old rest : B) → NoHeads number holds reads w (least w s P) old (Frontend rest) → (x : ChainState) → FromRemainders w s P (map number (holds.words old)) x → ⊥
  no_remainders old rest stop x from =
      no_heads number holds reads w (least w s P) list old rest (base_two w sized.sizes.some_bits) stop x.h x.r x.remainders from.chain.some (some_number x.r from.chain.window.from) from.chain.window.from from.are

  pub no_compressed : (old rest : B) → NoStart number holds reads w (least w s P) old (Frontend rest) → (x : ChainState) → FromCompressed w s P (map number (holds.words old)) x → ⊥
  no_compressed old rest stop x (whole, are) =
      no_start number holds reads w (least w s P) list old rest (base_two w sized.sizes.some_bits) stop x.r x.compressed (some_number x.r whole.chain.window.from) whole.chain.window.from are

  pub no_binary : (old rest : B) → TooFew number holds reads w (least w s P) 1 old (Frontend rest) → (x : ChainState) → FromBinary w s P (map number (holds.words old)) x → ⊥
  no_binary old rest stop x (whole, (m, one, are)) =
      too_few number holds reads w (least w s P) list old rest stop m x.r x.compressed one whole.chain.window.from are
