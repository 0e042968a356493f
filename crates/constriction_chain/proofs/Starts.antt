-- Words that begin no chain coder, and words of a coder's heads above others.
use Rattle.std.proofs.Common.{◌≡◌, refl, ℕ, ◌+◌, ◌^◌, List, [], ◌∷◌, ◌++◌, map, reverse, append-nil, ap, ◌∙◌}
use Rattle.std.specs.Int.Digits.{digits_of}
use Rattle.constriction_base.specs.Digits.{fixed_digits}
use Rattle.constriction_base.specs.Writing.{IsOneAbove}
use Rattle.constriction_base.specs.declared.backends.reading.Holds as holding
use Rattle.constriction_base.specs.declared.backends.reading.ReadWords as reading
use Rattle.constriction_base.specs.declared.errors.CoderError.{CoderError}
use Rattle.constriction_base.specs.declared.errors.CoderError.TheVariants.{Backend, Frontend}
use Rattle.constriction_chain.specs.Chain.{ChainState, IsSized, least}
use Rattle.constriction_chain.specs.Imports.{FromBinary, FromCompressed, FromRemainders, compressed_words}
use Rattle.constriction_chain.specs.Words.{NoHeads, NoStart, TooFew, remainder_words}
use Rattle.constriction_chain.proofs.Chains.{state}
use Rattle.constriction_chain.proofs.NoCoder as laws

-- ---- words that begin no coder
module _ {W B O E : Type 0} (number : W → ℕ) (holds : holding.Ghosts B W O) (reads : reading.Ghosts B W O E) (w s P : ℕ) (list : holds.is_list) (sized : IsSized w s P) (never : E → ⊥)
    (old : B) where
  pub no_compressed : (e : CoderError B E) → NoStart number holds reads w (least w s P) old e → (words : List ℕ) → map number (holds.words old) ≡ words → (x : ChainState) × FromCompressed w s P words x → ⊥
  no_compressed (Backend e) stop words are from = never e
  no_compressed (Frontend rest) stop words are from = laws.no_compressed number holds reads w s P list sized old rest stop from.0 (rw are from.1)

  pub no_binary : (e : CoderError B E) → TooFew number holds reads w (least w s P) 1 old e → (words : List ℕ) → map number (holds.words old) ≡ words → (x : ChainState) × FromBinary w s P words x → ⊥
  no_binary (Backend e) stop words are from = never e
  no_binary (Frontend rest) stop words are from = laws.no_binary number holds reads w s P list sized old rest stop from.0 (rw are from.1)

  pub no_remainders : (e : CoderError B E) → NoHeads number holds reads w (least w s P) old e → (words : List ℕ) → map number (holds.words old) ≡ words → (x : ChainState) × FromRemainders w s P words x → ⊥
  no_remainders (Backend e) stop words are from = never e
  no_remainders (Frontend rest) stop words are from = laws.no_remainders number holds reads w s P list sized old rest stop from.0 (rw are from.1)

-- ---- words of heads over no others, with a caller's below them
pub compressed_above : {W A : Type 0} (number : W → ℕ) (w h r : ℕ) (added : List W) (below : List ℕ) (x : ChainState) → x ≡ state h r [] []
    → (x.h ≡ 1) × A × (map number (reverse added) ≡ compressed_words w x) → (h ≡ 1) × (map number (reverse added) ++ below ≡ digits_of (2 ^ w) r ++ below)
compressed_above number w h r added below x is words =
    let found = rw is at words in
    (found.0, ap (λ (ys : List ℕ). ys ++ below) (found.2 ∙ append-nil (digits_of (2 ^ w) r)))

pub binary_above : {W A : Type 0} (number : W → ℕ) (w h r : ℕ) (added : List W) (below : List ℕ) (x : ChainState) → x ≡ state h r [] []
    → (x.h ≡ 1) × A × ((m : ℕ) × IsOneAbove w m x.r × (map number (reverse added) ≡ fixed_digits (2 ^ w) m x.r ++ x.compressed))
    → (h ≡ 1) × ((m : ℕ) × IsOneAbove w m r × (map number (reverse added) ++ below ≡ fixed_digits (2 ^ w) m r ++ below))
binary_above number w h r added below x is words =
    let found = rw is at words in
    (found.0, (found.2.0, found.2.1, ap (λ (ys : List ℕ). ys ++ below) (found.2.2 ∙ append-nil (fixed_digits (2 ^ w) found.2.0 r))))

pub heads_above : {W : Type 0} (number : W → ℕ) (w h r : ℕ) (added : List W) (below : List ℕ) (x : ChainState) → x ≡ state h r [] [] → map number (reverse added) ≡ remainder_words w x
    → map number (reverse added) ++ below ≡ h ∷ (digits_of (2 ^ w) r ++ below)
heads_above number w h r added below x is words = rw (words, is, append-nil (digits_of (2 ^ w) r)) refl
