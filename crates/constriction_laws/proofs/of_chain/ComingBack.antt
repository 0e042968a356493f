-- Lists of symbols on the chain coder, and the words that come back from them.
use Rattle.std.specs.Prelude.{reverse}
use Rattle.std.proofs.Common.{◌≡◌, ℕ, ◌^◌, ◌≤◌, List, [], ◌∷◌, ◌++◌, refl, sym, ap, subst, ◌∙◌, append_assoc}
use Rattle.std.proofs.lemmas.List.{append-nil}
use Rattle.std.specs.Int.Digits.{digits_of}
use Rattle.constriction_base.specs.Digits.{fixed_digits}
use Rattle.constriction_base.specs.Models.{Model, Item}
use Rattle.constriction_base.specs.Steps.{AreWords}
use Rattle.constriction_base.proofs.Entries.{one_of}
use Rattle.constriction_chain.specs.Chain.{ChainState, IsChain, IsDecode, IsSized, least}
use Rattle.constriction_chain.specs.Imports.{AreBinaryWords, FromBinary, FromCompressed, FromRemainders, IsWhole, compressed_words}
use Rattle.constriction_chain.specs.Symbols.{AreModelsAt, ChainDecodesOne, ChainDecodesAll, ChainEncodesOne, ChainEncodesAll, IsModelAt}
use Rattle.constriction_base.specs.Writing.{IsOneAbove}
use Rattle.constriction_chain.specs.Words.{remainder_words}
use Rattle.constriction_chain.proofs.Below.{decodes_part, one_window}
use Rattle.constriction_chain.proofs.Chains.{state, state_same}
use Rattle.constriction_chain.proofs.Walks.{cons_same}
use Rattle.constriction_laws.specs.chain.Undone.{decoded_at, encode_back}
use Rattle.constriction_laws.proofs.Undoing.{all_undone}
use Rattle.constriction_base.proofs.WordLists.{words_behind}
use Rattle.constriction_base.proofs.Turns.{all-reverse}

-- ---- words that fit
fit_front : (w : ℕ) (us vs : List ℕ) → AreWords w (us ++ vs) → AreWords w us
fit_front w [] vs fit = tt
fit_front w (u ∷ us) vs fit = (fit.0, fit_front w us vs fit.1)

-- ---- words stand for one coder
pub one_compressed : (w s P : ℕ) (words : List ℕ) (x y : ChainState) → 1 ≤ w → FromCompressed w s P words x → FromCompressed w s P words y → x ≡ y
one_compressed w s P words x y some (i, are) (j, are') =
    let e = one_window w (least w s P) x.r y.r x.compressed y.compressed some i.chain.window j.chain.window (sym are ∙ are') in
    state_same x y (i.h ∙ sym j.h) e.0 e.1 (i.remainders ∙ sym j.remainders)

pub one_remainders : (w s P : ℕ) (words : List ℕ) (x y : ChainState) → 1 ≤ w → FromRemainders w s P words x → FromRemainders w s P words y → x ≡ y
one_remainders w s P words x y some i j =
    let first = cons_same x.h y.h (digits_of (2 ^ w) x.r ++ x.remainders) (digits_of (2 ^ w) y.r ++ y.remainders) (sym i.are ∙ j.are) in
    let e = one_window w (least w s P) x.r y.r x.remainders y.remainders some i.chain.window j.chain.window first.1 in
    state_same x y first.0 e.0 (i.compressed ∙ sym j.compressed) e.1

module _ {S : Type 0} (w s P : ℕ) where
  -- ---- there is one list of encodes
  encode_unique : (model : Model S) (symbol : S) (old new other : ChainState) → IsModelAt P model
      → ChainEncodesOne w s model symbol old new → ChainEncodesOne w s model symbol old other → new ≡ other
  encode_unique model symbol old new other at (l, p, has, i) (m, r, has', j) =
      let one = one_of model.table symbol l m p r at.lawful.distinct has has' in
      let back : IsDecode w s (record { precision = model.precision; left = l; p = p }) other old = rw (one.0, one.1) j.back in
      sym (i.only other j.chain back)

  pub encodes_unique : (items : List (Item S)) (old new other : ChainState) → AreModelsAt P items
      → ChainEncodesAll w s items old new → ChainEncodesAll w s items old other → new ≡ other
  encodes_unique [] old new other at i j = i ∙ sym j
  encodes_unique (item ∷ items) old new other at i j =
      let same = encode_unique item.model item.symbol old i.0 j.0 at.0 i.1 j.1 in
      encodes_unique items j.0 new other at.1 (subst (λ (x : ChainState). ChainEncodesAll w s items x new) same i.2) j.2

  pub turned_at : (items : List (Item S)) → AreModelsAt P items → AreModelsAt P (reverse items)
  turned_at items at = all-reverse (λ item. IsModelAt P item.model) items at

  module _ (sized : IsSized w s P) where
    -- ---- encodes undo decodes
    pub undone : (items : List (Item S)) (old new : ChainState) → AreModelsAt P items → IsChain w s P old → ChainDecodesAll w s items old new
        → ChainEncodesAll w s (reverse items) new old × IsChain w s P new
    undone items old new at chain decoded =
        all_undone (λ item. IsModelAt P item.model) (λ x. IsChain w s P x) (λ item. ChainDecodesOne w s item.model item.symbol) (λ item. ChainEncodesOne w s item.model item.symbol)
        (λ item x y a v d. (encode_back w s P item.model item.symbol x y sized a v d, decoded_at w s P item.model item.symbol x y sized a v d)) items old new at chain decoded

    -- the same over the words that were taken alone, and with other words below the remainders
    pub other_way : (below : List ℕ) (items : List (Item S)) (x y : ChainState) → AreModelsAt P items → AreWords w below → IsWhole w s P x → ChainDecodesAll w s items x y
        → (t : List ℕ) × (x.compressed ≡ t ++ y.compressed) × IsChain w s P (state y.h y.r [] (y.remainders ++ below))
        × ChainEncodesAll w s (reverse items) (state y.h y.r [] (y.remainders ++ below)) (state x.h x.r t below)
    other_way below items x y at fit whole decoded =
        let part = decodes_part w s items x y decoded in
        let t = part.0 in
        let end : ChainState = state y.h y.r [] (y.remainders ++ below) in
        let over : ChainDecodesAll w s items (state x.h x.r t below) end =
        subst (λ (rs : List ℕ). ChainDecodesAll w s items (state x.h x.r t (rs ++ below)) end) whole.remainders
        (subst (λ (ts : List ℕ). ChainDecodesAll w s items (state x.h x.r ts (x.remainders ++ below)) end) (append-nil t) (part.2 [] below)) in
        let chain : IsChain w s P (state x.h x.r t below) = record {
          some = whole.chain.some;
          within_word = whole.chain.within_word;
          window = whole.chain.window;
          compressed_fit = fit_front w t y.compressed (subst (λ (ws : List ℕ). AreWords w ws) part.1 whole.chain.compressed_fit);
          remainders_fit = fit;
        } in
        let back = undone items (state x.h x.r t below) end at chain over in
        (t, part.1, back.1, back.0)

    -- ---- words
    pub can_encode : (below : List ℕ) (items : List (Item S)) (x y : ChainState) → AreModelsAt P items → AreWords w below → IsWhole w s P x → ChainDecodesAll w s items x y
        → (z last : ChainState) × FromRemainders w s P (remainder_words w y ++ below) z × ChainEncodesAll w s (reverse items) z last
    can_encode below items x y at fit whole decoded =
        let way = other_way below items x y at fit whole decoded in (
          state y.h y.r [] (y.remainders ++ below),
          state x.h x.r way.0 below,
          record { chain = way.2; compressed = refl; are = ap (λ (ws : List ℕ). y.h ∷ ws) (append_assoc (digits_of (2 ^ w) y.r) y.remainders below) },
          way.3,
        )

    pub come_back : (below : List ℕ) (items : List (Item S)) (x y z last : ChainState) → AreModelsAt P items → IsWhole w s P x → ChainDecodesAll w s items x y
        → FromRemainders w s P (remainder_words w y ++ below) z → ChainEncodesAll w s (reverse items) z last
        → (last.h ≡ 1) × (last.r ≡ x.r) × (last.remainders ≡ below) × (x.compressed ≡ last.compressed ++ y.compressed)
    come_back below items x y z last at whole decoded from encoded =
        let chain = (undone items x y at whole.chain decoded).1 in
        let first = cons_same y.h z.h ((digits_of (2 ^ w) y.r ++ y.remainders) ++ below) (digits_of (2 ^ w) z.r ++ z.remainders) from.are in
        let rest = one_window w (least w s P) y.r z.r (y.remainders ++ below) z.remainders sized.sizes.some_bits chain.window from.chain.window
        (sym (append_assoc (digits_of (2 ^ w) y.r) y.remainders below) ∙ first.1) in
        let fit = words_behind w y.remainders below (subst (λ (ws : List ℕ). AreWords w ws) (sym rest.1) from.chain.remainders_fit) in
        let way = other_way below items x y at fit whole decoded in
        let same : z ≡ state y.h y.r [] (y.remainders ++ below) = state_same z (state y.h y.r [] (y.remainders ++ below)) (sym first.0) (sym rest.0) from.compressed (sym rest.1) in
        let put = subst (λ (o : ChainState). ChainEncodesAll w s (reverse items) o last) same encoded in
        let end : last ≡ state x.h x.r way.0 below =
        encodes_unique (reverse items) (state y.h y.r [] (y.remainders ++ below)) last (state x.h x.r way.0 below) (turned_at items at) put way.3 in (
          ap (λ (o : ChainState). o.h) end ∙ whole.h,
          ap (λ (o : ChainState). o.r) end,
          ap (λ (o : ChainState). o.remainders) end,
          way.1 ∙ ap (λ (ws : List ℕ). ws ++ y.compressed) (sym (ap (λ (o : ChainState). o.compressed) end)),
        )

    pub compressed_back : (words below : List ℕ) (items : List (Item S)) (x y z last : ChainState) → AreModelsAt P items → FromCompressed w s P words x → ChainDecodesAll w s items x y
        → FromRemainders w s P (remainder_words w y ++ below) z → ChainEncodesAll w s (reverse items) z last
        → (last.h ≡ 1) × (last.remainders ≡ below) × (words ≡ compressed_words w last ++ y.compressed)
    compressed_back words below items x y z last at (whole, are) decoded from encoded =
        let back = come_back below items x y z last at whole decoded from encoded in (
          back.0,
          back.2,
          are ∙ (ap (λ (ws : List ℕ). digits_of (2 ^ w) x.r ++ ws) back.3 ∙ (ap (λ n. digits_of (2 ^ w) n ++ (last.compressed ++ y.compressed)) (sym back.1)
              ∙ sym (append_assoc (digits_of (2 ^ w) last.r) last.compressed y.compressed))),
        )

    pub binary_back : (words below : List ℕ) (items : List (Item S)) (x y z last : ChainState) → AreModelsAt P items → FromBinary w s P words x → ChainDecodesAll w s items x y
        → FromRemainders w s P (remainder_words w y ++ below) z → ChainEncodesAll w s (reverse items) z last
        → (last.h ≡ 1) × (last.remainders ≡ below) × ((written : List ℕ) × AreBinaryWords w written last × (words ≡ written ++ y.compressed))
    binary_back words below items x y z last at (whole, (m, one, are)) decoded from encoded =
        let back = come_back below items x y z last at whole decoded from encoded in
        let one' : IsOneAbove w m last.r = subst (λ n. IsOneAbove w m n) (sym back.1) one in (
          back.0,
          back.2,
          (
            fixed_digits (2 ^ w) m last.r ++ last.compressed,
            (m, one', refl),
            are ∙ (ap (λ (ws : List ℕ). fixed_digits (2 ^ w) m x.r ++ ws) back.3 ∙ (ap (λ n. fixed_digits (2 ^ w) m n ++ (last.compressed ++ y.compressed)) (sym back.1)
                ∙ sym (append_assoc (fixed_digits (2 ^ w) m last.r) last.compressed y.compressed))),
          ),
        )
