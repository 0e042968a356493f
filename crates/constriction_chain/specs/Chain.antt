-- States of the chain coder, and the effect of each step on them. w and s are the widths in bits of a word and of a
-- remainders head. All definitions are about numbers and lists. Words are listed in reading order.
use Rattle.std.specs.Prelude.{◌≡◌, ◌⊎◌, ℕ, ◌+◌, ◌-◌, ◌*◌, ◌^◌, ◌<◌, ◌≤◌, List, map}
use Rattle.constriction_base.specs.Steps.{Step, IsSizes, AreWords}
use Rattle.constriction_base.specs.Windows.{IsInWindow, IsMovedOut}
use Rattle.constriction_base.specs.declared.backends.reading.Holds as holding
use Rattle.constriction_chain.specs.Walk.{IsQuantile}

-- The sizes and the precision that a coder may have: the precision P is from 1 to w bits.
pub record IsSized (w s P : ℕ) : Type 0 where
  pub sizes : IsSizes w s
  pub some : 1 ≤ P
  pub within_word : P ≤ w

-- The state of a coder. h is the compressed head: a 1 followed by the bits left over. r is the remainders head. The
-- lists are the words of both sides.
pub record ChainState : Type 0 where
  pub h : ℕ
  pub r : ℕ
  pub compressed : List ℕ
  pub remainders : List ℕ

-- The start of the remainders head's window at the precision P: the least value of the head.
abbrev pub least : ℕ → ℕ → ℕ → ℕ
least w s P = 2 ^ (s - w - P)

-- The number r lies in the window of a remainders head at the precision P.
abbrev pub IsRemaindersHead : ℕ → ℕ → ℕ → ℕ → Type 0
IsRemaindersHead w s P r = IsInWindow w (least w s P) r

-- The state is valid at the precision P. The compressed head isn't 0, the remainders head is in its window, and all
-- words fit w bits.
pub record IsChain (w s P : ℕ) (x : ChainState) : Type 0 where
  pub some : 0 < x.h
  pub within_word : x.h < 2 ^ w
  pub window : IsRemaindersHead w s P x.r
  pub compressed_fit : AreWords w x.compressed
  pub remainders_fit : AreWords w x.remainders

-- Brings the number x below the end of a window, which is bound * 2 ^ w. A lower number stays as it is. The low word of
-- any other number moves out onto the words.
abbrev pub IsBroughtBelow : ℕ → ℕ → ℕ → List ℕ → ℕ → List ℕ → Type 0
IsBroughtBelow w bound x words x' words' =
    ((x < bound * 2 ^ w) × (x' ≡ x) × (words' ≡ words))
    ⊎ ((bound * 2 ^ w ≤ x) × IsMovedOut w x words x' words')

-- A decode by the step e takes a quantile of the step's interval from the compressed side. The quantile's offset t in
-- the interval moves to the remainders.
pub record IsDecode (w s : ℕ) (e : Step) (old new : ChainState) : Type 0 where
  pub t : ℕ
  pub within : t < e.p
  pub walk : IsQuantile w e.precision old.h old.compressed (e.left + t) new.h new.compressed
  pub gain : IsBroughtBelow w (least w s e.precision) (old.r * e.p + t) old.remainders new.r new.remainders

-- An encode by the step e leads to the only valid state from which a decode by e leads back to the old state.
pub record IsEncode (w s : ℕ) (e : Step) (old new : ChainState) : Type 0 where
  pub chain : IsChain w s e.precision new
  pub back : IsDecode w s e new old
  pub only : (other : ChainState) → IsChain w s e.precision other → IsDecode w s e other old → other ≡ new

-- A change of the precision brings the remainders head into the window from `bound`. At most one word moves out of the
-- head or into it.
pub record IsPrecisionChange (w bound : ℕ) (old new : ChainState) : Type 0 where
  pub h : new.h ≡ old.h
  pub compressed : new.compressed ≡ old.compressed
  pub window : IsInWindow w bound new.r
  pub move : ((new.r ≡ old.r) × (new.remainders ≡ old.remainders))
      ⊎ IsMovedOut w old.r old.remainders new.r new.remainders
      ⊎ IsMovedOut w new.r new.remainders old.r old.remainders

-- ---- coders

-- The value of a coder in contracts: its state, and the backends that hold its words.
pub record ChainValue (C R : Type 0) : Type 0 where
  pub state : ChainState
  pub compressed : C
  pub remainders : R

-- The value of a coder with the heads h and r. The two backends hold its words.
abbrev pub value_of : {W C R S : Type 0} → (W → ℕ) → holding.Ghosts C W S → holding.Ghosts R W S → ℕ → ℕ → C → R → ChainValue C R
value_of number compressed_holds remainders_holds h r compressed remainders = record {
  state = record {
    h = h;
    r = r;
    compressed = map number (compressed_holds.words compressed);
    remainders = map number (remainders_holds.words remainders);
  };
  compressed = compressed;
  remainders = remainders;
}

-- The value of a coder with a pair of heads. The compressed head comes first, and has the type of a word.
abbrev pub at_heads : {W V C R S : Type 0} → (W → ℕ) → (V → ℕ) → holding.Ghosts C W S → holding.Ghosts R W S → W × V → C → R → ChainValue C R
at_heads number remainders_number compressed_holds remainders_holds heads compressed remainders =
    value_of number compressed_holds remainders_holds (number heads.0) (remainders_number heads.1) compressed remainders

-- Holds for every coder. The sizes and the precision are allowed, and the state is valid. The state's words are the
-- words of the two backends.
pub record IsChainCoder {W C R S : Type 0} (number : W → ℕ) (compressed_holds : holding.Ghosts C W S) (remainders_holds : holding.Ghosts R W S)
    (w s P : ℕ) (coder : ChainValue C R) : Type 0 where
  pub sized : IsSized w s P
  pub chain : IsChain w s P coder.state
  pub compressed_are : coder.state.compressed ≡ map number (compressed_holds.words coder.compressed)
  pub remainders_are : coder.state.remainders ≡ map number (remainders_holds.words coder.remainders)
