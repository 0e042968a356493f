-- Words that hold whatever follows: symbols that are read from them.
use Rattle.std.proofs.Common.{◌≡◌, ℕ, suc, ◌+◌, ◌-◌, ◌*◌, ◌/◌, ◌^◌, ◌<◌, ◌≤◌, List, [], ◌∷◌, ◌++◌, replicate, ap, ◌∙◌, subst, inl, inr, arith, pow_pos}
use Rattle.constriction_base.specs.Digits.{fixed_digits}
use Rattle.constriction_base.specs.Steps.{AreWords, IsSizes}
use Rattle.constriction_base.specs.Models.{Item, IsModel, AreModels}
use Rattle.constriction_base.proofs.Trace.{Trace-append}
use Rattle.constriction_base.proofs.Sizes.{Facts, facts}
use Rattle.constriction_queue.specs.Range.{Run, IsInterval, Within, number_read, offset, seal_number, sealed, initial}
use Rattle.constriction_queue.specs.SelfDelimiting.{AreLeast, SelfDelimits}
use Rattle.constriction_queue.proofs.Cuts.{offset_is}
use Rattle.constriction_queue.proofs.Narrowing.{valid_start}
use Rattle.constriction_queue.proofs.SealedRuns.{ceil_below, ceil_from}
use Rattle.constriction_queue.proofs.SelfDelimited.{fewer_outside, length_self, number_at_end, ones_behind, self_sealed, self_within, self_words, words_ones, words_same}
use Rattle.constriction_queue.specs.Symbols.{Narrows, NarrowsAll, FindsAll, MayEnd}
use Rattle.constriction_queue.proofs.ComingBack.{encodes_unique}
use Rattle.constriction_queue.proofs.Entries.{as_encodes, interval_after, intervals}
use Rattle.constriction_queue.proofs.WordsWithin.{read_before, within_read}
use Rattle.constriction_queue.proofs.Sealing.{drop_all, less_than_all}
use Rattle.constriction_base.proofs.WordLists.{words-append, words-fixed_digits}
use Rattle.constriction_base.proofs.Turns.{all-append}

module _ {S : Type 0} (w s : ℕ) (z : IsSizes w s) where
  -- they lie within the run of some symbols
  within_all : (item : Item S) (items : List (Item S)) (last : Run) (words rest : List ℕ) → AreModels w (item ∷ items) → NarrowsAll w s (item ∷ items) (initial s) last
      → SelfDelimits w s last words → AreWords w rest → Within w s (words ++ rest) last
  within_all item items last words rest ms h are fit =
      self_within w s last words rest z (intervals w s (item ∷ items) (initial s) last z ms (valid_start w s z) h) (less_than_all w s z item items last ms h) are fit

  -- and so they do where some of them came before
  within_since : (before : List (Item S)) (item : Item S) (since : List (Item S)) (middle last : Run) (words rest : List ℕ) → AreModels w before → AreModels w (item ∷ since)
      → NarrowsAll w s before (initial s) middle → NarrowsAll w s (item ∷ since) middle last → SelfDelimits w s last words → AreWords w rest → Within w s (words ++ rest) last
  within_since [] item since middle last words rest bs ss h k are fit =
      within_all item since last words rest ss (subst (λ (r : Run). NarrowsAll w s (item ∷ since) r last) h k) are fit
  within_since (first ∷ before) item since middle last words rest bs ss h k are fit =
      within_all first (before ++ item ∷ since) last words rest (all-append (λ (i : Item S). IsModel w i.model) (first ∷ before) (item ∷ since) bs ss)
      (Trace-append (λ (i : Item S). Narrows w s i.model i.symbol) (first ∷ before) (item ∷ since) (initial s) middle last h k) are fit

  -- what holds of the decodes of symbols whose words lie within their run holds of these
  pub read_whatever_follows : (before since : List (Item S)) (middle last : Run) (words rest : List ℕ) → AreModels w before → AreModels w since
      → NarrowsAll w s before (initial s) middle → NarrowsAll w s since middle last → SelfDelimits w s last words → AreWords w rest
      → (Within w s (words ++ rest) last → FindsAll w s (words ++ rest) since middle last)
      → FindsAll w s (words ++ rest) since middle last
  read_whatever_follows before [] middle last words rest bs ss h k are fit law = k
  read_whatever_follows before (item ∷ since) middle last words rest bs ss h k are fit law = law (within_since before item since middle last words rest bs ss h k are fit)

  -- words that lie within the run behind symbols are read as these, and lie within the run before them
  found_within : (words : List ℕ) → AreWords w words → (items : List (Item S)) (old new : Run) → AreModels w items → IsInterval w s old → NarrowsAll w s items old new → Within w s words new
      → FindsAll w s words items old new × Within w s words old
  found_within words are [] old new ms v h within = (h, subst (λ (r : Run). Within w s words r) h within)
  found_within words are (item ∷ items) old new ms v h within =
      let rest = found_within words are items h.0 new ms.1 (interval_after w s item old h.0 z ms.0 v h.1) h.2 within in
      let one = read_before w s z words are item old h.0 ms.0 v h.1 rest.1 in
      ((h.0, one.0, rest.0), one.1)

  -- symbols that a new encoder was given, all of them or those since a position, come back whatever words follow
  pub come_back_whatever_follows : (before since : List (Item S)) (middle last : Run) (words rest : List ℕ) → AreModels w before → AreModels w since → AreWords w rest
      → NarrowsAll w s before (initial s) middle → NarrowsAll w s since middle last → SelfDelimits w s last words
      → FindsAll w s (words ++ rest) since middle last
  come_back_whatever_follows before since middle last words rest bs ss fit h k are =
      let v = intervals w s before (initial s) middle z bs (valid_start w s z) h in
      read_whatever_follows before since middle last words rest bs ss h k are fit
      (λ within. (found_within (words ++ rest) (words-append w words rest (self_words w s last words are) fit) since middle last ss v k within).0)

  -- fewer zero words
  pub fewer_read : (count fewer : ℕ) (first : Item S) (others : List (Item S)) (last end : Run) → AreModels w (first ∷ others) → NarrowsAll w s (first ∷ others) (initial s) last
      → AreLeast w s last count → fewer < count
      → FindsAll w s ((fixed_digits (2 ^ w) (suc last.moves) (seal_number w s last) ++ replicate fewer 0) ++ ones_behind w s fewer) (first ∷ others) (initial s) end → ⊥
  fewer_read count fewer first others last end ms h least less found =
      let ds : List ℕ = fixed_digits (2 ^ w) (suc last.moves) (seal_number w s last) ++ replicate fewer 0 in
      let words : List ℕ = ds ++ ones_behind w s fewer in
      let are : AreWords w words = words-append w ds (ones_behind w s fewer) (words-append w (fixed_digits (2 ^ w) (suc last.moves) (seal_number w s last)) (replicate fewer 0) (words-fixed_digits w (suc last.moves) (seal_number w s last)) (words_same w fewer 0 (pow_pos w))) (words_ones w s fewer) in
      let same : end ≡ last = encodes_unique w s (first ∷ others) (initial s) end last ms (as_encodes w s words (first ∷ others) (initial s) end found) h in
      let within : Within w s words end = within_read w s words first others end z are ms found in
      fewer_outside w s fewer last z (intervals w s (first ∷ others) (initial s) last z ms (valid_start w s z) h) (omega (arith, less, least.few)) (least.least fewer less)
      (subst (λ (r : Run). Within w s words r) same within)

  -- ---- where they end
  pub self_end : (items : List (Item S)) (last : Run) (words : List ℕ) → AreModels w items → NarrowsAll w s items (initial s) last → SelfDelimits w s last words → MayEnd w s words last
  self_end [] last words ms h are =
      let range : last.range + 1 ≡ 2 ^ s = ap (λ (r : Run). r.range + 1) h ∙ omega (arith, pow_pos s) in
      (drop_all (last.moves + s / w) words (length_self w s last words z are), inl range)
  self_end (item ∷ items) last words ms h are =
      let f : Facts w s = facts w s z in
      let v : IsInterval w s last = intervals w s (item ∷ items) (initial s) last z ms (valid_start w s z) h in
      let coded : last.range + 1 < 2 ^ s = less_than_all w s z item items last ms h in
      let q : ℕ = 2 ^ (s - w) in
      let c : ℕ = seal_number w s last in
      let some : 0 < q = pow_pos (s - w) in
      let from : last.low ≤ c * q = ceil_from last.low q some in
      let below : c * q < last.low + q = ceil_below last.low q some in
      let read : number_read w s words last.moves ≡ c * q = number_at_end w s last words z v coded are in
      let off : offset w s words last ≡ number_read w s words last.moves - last.low =
      offset_is last.low (number_read w s words last.moves) (2 ^ s) (pow_pos s) (omega (arith, read, from)) (omega (arith, read, below, v.least, v.fits)) in
      (drop_all (last.moves + s / w) words (length_self w s last words z are), inr (omega (arith, off, read, from, below, some)))

  pub two_words_same : (items : List (Item S)) (last : Run) (words : List ℕ) → s / w ≡ 2 → AreModels w items → NarrowsAll w s items (initial s) last → SelfDelimits w s last words → words ≡ sealed w s last
  two_words_same items last words two ms h are = self_sealed w s last words two (intervals w s items (initial s) last z ms (valid_start w s z) h) are
