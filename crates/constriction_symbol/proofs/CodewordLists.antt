-- Codewords of lists of symbols: as they are written, one behind another, and as they are read.
use Rattle.std.proofs.Common.{◌≡◌, ◌<◌, ℕ, Bool, true, false, replicate, List, [], ◌∷◌, ◌++◌, Option, Some, None, Result, Ok, length, map, reverse, ap, sym, subst, refl, ◌∙◌, arith, append-nil, append_assoc}
use Rattle.std.specs.List.{zip}
use Rattle.std.proofs.lemmas.List.{reverse-append, reverse-reverse}
use Rattle.constriction_base.specs.declared.errors.CoderError.{CoderError}
use Rattle.constriction_base.specs.Steps.{Trace}
use Rattle.constriction_base.proofs.Trace.{Trace-more}
use Rattle.constriction_stream.specs.Lists.{StepsAll}
use Rattle.constriction_symbol.specs.Bits.{HasStackWords, IsStackWords}
use Rattle.constriction_symbol.specs.Codewords.{ReadsSymbol, WritesCodeword, formed}
use Rattle.constriction_symbol.specs.declared.codebooks.SymbolCodeError.{SymbolCodeError}
use Rattle.constriction_symbol.specs.Lists.{AreCodewords, AreEach, ReadsAll}

-- ---- lists of codewords
-- one symbol more
pub codewords_push : {A : Type 0} (code : A → Option (List Bool)) (xs : List A) (x : A) (all last : List Bool) → AreCodewords code xs all → code x ≡ Some last → AreCodewords code (xs ++ x ∷ []) (all ++ last)
codewords_push code [] x all last h known = (last, [], known, ap (λ bs. bs ++ last) h ∙ sym (append-nil last), refl)
codewords_push code (y ∷ ys) x all last h known =
    (h.0, h.1 ++ last, h.2, ap (λ bs. bs ++ last) h.3 ∙ append_assoc h.0 h.1 last, codewords_push code ys x h.1 last h.4 known)

-- of what was lent, as of the symbols
pub codewords_map : {A B : Type 0} (f : A → B) (code : B → Option (List Bool)) (xs : List A) (all : List Bool) → AreCodewords (λ x. code (f x)) xs all → AreCodewords code (map f xs) all
codewords_map f code [] all h = h
codewords_map f code (x ∷ xs) all h = (h.0, h.1, h.2, h.3, codewords_map f code xs h.1 h.4)

-- ---- writes
module _ {C E A : Type 0} (bits : C → List Bool) (puts : C → Bool → Result (Unit {0}) E → C → Type 0) (wants : A → E → Type 0) (code : A → Option (List Bool)) where
  -- a write that went well is that of a codeword
  pub one_written : (form : List Bool → List Bool) (known : Option (List Bool)) (wanted : E → Type 0) (old new : C) → WritesCodeword bits puts wanted old (formed form known) (Ok tt) new
      → (first : List Bool) × (known ≡ Some first) × (bits new ≡ bits old ++ form first)
  one_written form None wanted old new (never, same) = absurd cc
  one_written form (Some first) wanted old new is = (first, refl, is.0)

  -- in the order of a queue
  pub written_first : (xs : List A) (old new : C) → StepsAll {E = CoderError _ E} (λ before x answer after. WritesCodeword bits puts (wants x) before (formed (λ bs. bs) (code x)) answer after) old xs new
      → (all : List Bool) × AreCodewords code xs all × (bits new ≡ bits old ++ all)
  written_first [] old new h = ([], refl, ap bits h ∙ sym (append-nil (bits old)))
  written_first (x ∷ xs) old new h =
      let first = one_written (λ bs. bs) (code x) (wants x) old h.0 h.1 in
      let rest = written_first xs h.0 new h.2 in
      (first.0 ++ rest.0, (first.0, rest.0, first.1, refl, rest.1), rest.2 ∙ (ap (λ bs. bs ++ rest.0) first.2 ∙ append_assoc (bits old) first.0 rest.0))

  -- in the order of a stack, of which the last codeword is read first
  pub written_last : (xs : List A) (old new : C) → StepsAll {E = CoderError _ E} (λ before x answer after. WritesCodeword bits puts (wants x) before (formed (λ bs. reverse bs) (code x)) answer after) old xs new
      → (all : List Bool) × AreCodewords code (reverse xs) all × (reverse (bits new) ≡ all ++ reverse (bits old))
  written_last [] old new h = ([], refl, ap (λ c. reverse (bits c)) h)
  written_last (x ∷ xs) old new h =
      let first = one_written (λ bs. reverse bs) (code x) (wants x) old h.0 h.1 in
      let rest = written_last xs h.0 new h.2 in
      let reversed : reverse (bits h.0) ≡ first.0 ++ reverse (bits old) =
      ap reverse first.2 ∙ (reverse-append (bits old) (reverse first.0) ∙ ap (λ bs. bs ++ reverse (bits old)) (reverse-reverse first.0)) in (
        rest.0 ++ first.0,
        subst (λ ys. AreCodewords code ys (rest.0 ++ first.0)) (sym (reverse-append (x ∷ []) xs)) (codewords_push code (reverse xs) x rest.0 first.0 rest.1 first.1),
        rest.2 ∙ (ap (λ bs. rest.0 ++ bs) reversed ∙ sym (append_assoc rest.0 first.0 (reverse (bits old)))),
      )

-- ---- reads
-- items that were read one after the other, where one that is read of bits that begin with the codeword of another is the same
module _ {I A : Type 0} (unread : I → List Bool) (code : A → Option (List Bool)) (reads : A → I → I → Type 0) (same alike : A → A → Type 0)
    (one_back : (x y : A) (first rest : List Bool) (old new : I) → alike x y → code y ≡ Some first → unread old ≡ first ++ rest → reads x old new → same x y × (unread new ≡ rest)) where
  pub all_back : (xs ys : List A) (all rest : List Bool) (old new : I) → AreEach alike xs ys → AreCodewords code ys all → unread old ≡ all ++ rest → Trace reads xs old new
      → AreEach same xs ys × (unread new ≡ rest)
  all_back [] [] all rest old new each coded is h = (tt, ap unread h ∙ (is ∙ ap (λ bs. bs ++ rest) coded))
  all_back [] (y ∷ ys) all rest old new each coded is h = absurd each
  all_back (x ∷ xs) [] all rest old new each coded is h = absurd each
  all_back (x ∷ xs) (y ∷ ys) all rest old new each coded is h =
      let first = one_back x y coded.0 (coded.1 ++ rest) old h.0 each.0 coded.2 (is ∙ (ap (λ bs. bs ++ rest) coded.3 ∙ append_assoc coded.0 coded.1 rest)) h.1 in
      let more = all_back xs ys coded.1 rest h.0 new each.1 coded.4 first.1 h.2 in
      ((first.0, more.0), more.1)

  -- where the codewords of more items are there, no read is refused
  pub none_stops : (refuses : I → I → Type 0) → ((x y : A) → alike x y)
      → ((y : A) (first rest : List Bool) (old new : I) → code y ≡ Some first → unread old ≡ first ++ rest → refuses old new → ⊥)
      → (xs ys : List A) (all rest : List Bool) (old mid new : I) → length xs < length ys → AreCodewords code ys all → unread old ≡ all ++ rest → Trace reads xs old mid → refuses mid new → ⊥
  none_stops refuses free never [] [] all rest old mid new less coded is h refused = omega (arith, less)
  none_stops refuses free never [] (y ∷ ys) all rest old mid new less coded is h refused =
      never y coded.0 (coded.1 ++ rest) mid new coded.2 (ap unread h ∙ (is ∙ (ap (λ bs. bs ++ rest) coded.3 ∙ append_assoc coded.0 coded.1 rest))) refused
  none_stops refuses free never (x ∷ xs) [] all rest old mid new less coded is h refused = omega (arith, less)
  none_stops refuses free never (x ∷ xs) (y ∷ ys) all rest old mid new less coded is h refused =
      let first = one_back x y coded.0 (coded.1 ++ rest) old h.0 (free x y) coded.2 (is ∙ (ap (λ bs. bs ++ rest) coded.3 ∙ append_assoc coded.0 coded.1 rest)) h.1 in
      none_stops refuses free never xs ys coded.1 rest h.0 mid new (omega (arith, less)) coded.4 first.1 h.2 refused

-- what asks for nothing is so of as many
pub each_free : {A : Type 0} (xs ys : List A) → length xs ≡ length ys → AreEach (λ x y. Unit {0}) xs ys
each_free [] [] is = tt
each_free [] (y ∷ ys) is = absurd (omega (arith, is))
each_free (x ∷ xs) [] is = absurd (omega (arith, is))
each_free (x ∷ xs) (y ∷ ys) is = (tt, each_free xs ys (omega (arith, is)))

-- as many symbols beside the same
pub each_zip : {S K : Type 0} (xs ys : List S) (ks : List K) → length xs ≡ length ks → length ys ≡ length ks → AreEach (λ p q. p.1 ≡ q.1) (zip xs ks) (zip ys ks)
each_zip [] [] ks first second = tt
each_zip [] (y ∷ ys) [] first second = absurd (omega (arith, second))
each_zip [] (y ∷ ys) (k ∷ ks) first second = absurd (omega (arith, first))
each_zip (x ∷ xs) ys [] first second = absurd (omega (arith, first))
each_zip (x ∷ xs) [] (k ∷ ks) first second = absurd (omega (arith, second))
each_zip (x ∷ xs) (y ∷ ys) (k ∷ ks) first second = (refl, each_zip xs ys ks (omega (arith, first)) (omega (arith, second)))

-- one symbol more
pub reads_more : {I S K V E : Type 0} (next : I → Option (Result Bool E) → I → Type 0) (codeword : K → S → Option (List Bool)) (reads_on : K → List Bool → Type 0) (is_invalid : K → List Bool → V → Type 0)
    (book other : K) (old : I) (xs : List S) (mid : I) (x : S) (answer : Result S (CoderError (SymbolCodeError V) E)) (new : I)
    → ReadsAll next (codeword book) (reads_on book) (is_invalid book) xs old mid → other ≡ book → answer ≡ Ok x → ReadsSymbol next (codeword other) (reads_on other) (is_invalid other) mid answer new
    → ReadsAll next (codeword book) (reads_on book) (is_invalid book) (xs ++ x ∷ []) old new
reads_more {I} {S} {K} {V} {E} next codeword reads_on is_invalid book other old xs mid x answer new all is given step =
    let at : ReadsSymbol next (codeword book) (reads_on book) (is_invalid book) mid answer new = subst (λ (k : K). ReadsSymbol next (codeword k) (reads_on k) (is_invalid k) mid answer new) is step in
    let one : ReadsSymbol next (codeword book) (reads_on book) (is_invalid book) mid (Ok x) new = subst (λ (r : Result S (CoderError (SymbolCodeError V) E)). ReadsSymbol next (codeword book) (reads_on book) (is_invalid book) mid r new) given at in
    Trace-more (λ (symbol : S) (before after : I). ReadsSymbol next (codeword book) (reads_on book) (is_invalid book) before (Ok symbol) after) xs x old mid new all one

-- ---- words of a stack
no_end : (bits tail : List Bool) → [] ≡ bits ++ true ∷ tail → ⊥
no_end [] tail is = cc
no_end (b ∷ bits) tail is = cc

pub has_stack_words : (w : ℕ) (bits : List Bool) (words : List ℕ) → IsStackWords w bits words → HasStackWords w bits words
has_stack_words w bits [] is = absurd (no_end bits (replicate is.zeros false) is.is)
has_stack_words w bits (v ∷ vs) is = is
