-- Words that lie below those that a chain coder's steps read and write stay there.
use Rattle.std.proofs.Common.{◌≡◌, ℕ, ◌+◌, ◌≤◌, List, [], ◌∷◌, ◌++◌, take, sym, ap, ◌∙◌, subst, arith, inl, inr, append_assoc}
use Rattle.constriction_base.specs.Models.{Item}
use Rattle.constriction_base.specs.Steps.{AreWords, Step}
use Rattle.constriction_base.proofs.WordLists.{words-append}
use Rattle.constriction_chain.specs.Chain.{ChainState, IsChain, IsDecode, IsEncode}
use Rattle.constriction_chain.specs.Symbols.{ChainEncodesAll, ChainDecodesAll}
use Rattle.constriction_chain.specs.Walk.{QuantileFromSource, Source}
use Rattle.constriction_chain.proofs.Below.{decodes_part}
use Rattle.constriction_chain.proofs.Chains.{decode_from, state}
use Rattle.constriction_chain.proofs.Walks.{quantile_over}

-- ---- decodes

-- decodes leave the remainders that lie below those that they write
pub taken_over : {S : Type 0} (w s : ℕ) (items : List (Item S)) (x y : ChainState) (below : List ℕ) → ChainDecodesAll w s items x y
    → ChainDecodesAll w s items (state x.h x.r x.compressed (x.remainders ++ below)) (state y.h y.r y.compressed (y.remainders ++ below))
taken_over w s items x y below all =
    let part = decodes_part w s items x y all in
    subst (λ (cs : List ℕ). ChainDecodesAll w s items (state x.h x.r cs (x.remainders ++ below)) (state y.h y.r y.compressed (y.remainders ++ below))) (sym part.1) (part.2 y.compressed below)

-- ---- encodes

-- a word has room for the bits that are taken
taken_within : (w P : ℕ) (old new : Source) (quantile : ℕ) → QuantileFromSource w P old quantile new → P ≤ w
taken_within w P old new quantile (inl from) = omega (arith, from.others_length)
taken_within w P old new quantile (inr from) = omega (arith, from.within_word)

-- an encode leaves the compressed words that lie below those that it writes
pub encode_over : (w s : ℕ) (e : Step) (x y : ChainState) (below : List ℕ) → AreWords w below → IsEncode w s e x y
    → IsEncode w s e (state x.h x.r (x.compressed ++ below) x.remainders) (state y.h y.r (y.compressed ++ below) y.remainders)
encode_over w s e x y below fit i =
    let within : e.precision ≤ w = taken_within w e.precision _ _ _ i.back.walk.taken in
    let old : ChainState = state x.h x.r (x.compressed ++ below) x.remainders in
    let new : ChainState = state y.h y.r (y.compressed ++ below) y.remainders in
    let chain : IsChain w s e.precision new = record {
      some = i.chain.some;
      within_word = i.chain.within_word;
      window = i.chain.window;
      compressed_fit = words-append w y.compressed below i.chain.compressed_fit fit;
      remainders_fit = i.chain.remainders_fit;
    } in
    let back : IsDecode w s e new old = record {
      t = i.back.t;
      within = i.back.within;
      walk = quantile_over w e.precision y.h (e.left + i.back.t) x.h y.compressed x.compressed below i.back.walk;
      gain = i.back.gain;
    } in
    record { chain = chain; back = back; only = λ other ok d. decode_from w s e within old other new ok chain d back }

-- the same of encodes one after the other
pub put_over : {S : Type 0} (w s : ℕ) (items : List (Item S)) (x y : ChainState) (below : List ℕ) → AreWords w below → ChainEncodesAll w s items x y
    → ChainEncodesAll w s items (state x.h x.r (x.compressed ++ below) x.remainders) (state y.h y.r (y.compressed ++ below) y.remainders)
put_over w s [] x y below fit all = ap (λ (z : ChainState). state z.h z.r (z.compressed ++ below) z.remainders) all
put_over w s (item ∷ items) x y below fit (next, (left, p, has, i), all) =
    let e : Step = record { precision = item.model.precision; left = left; p = p } in (
      state next.h next.r (next.compressed ++ below) next.remainders,
      (left, p, has, encode_over w s e x next below fit i),
      put_over w s items next y below fit all,
    )

-- and they take words of the remainders
pub put_takes : {S : Type 0} (w s : ℕ) (items : List (Item S)) (x y : ChainState) → ChainEncodesAll w s items x y → (t : List ℕ) × (x.remainders ≡ t ++ y.remainders)
put_takes w s [] x y all = ([], ap (λ (z : ChainState). z.remainders) (sym all))
put_takes w s (item ∷ items) x y (next, (left, p, has, i), all) =
    let one : (t : List ℕ) × (x.remainders ≡ t ++ next.remainders) = elim i.back.gain [ inl stays ↦ ([], stays.2) | inr (high, m) ↦ (m.word ∷ [], m.taken) ] in
    let more = put_takes w s items next y all in
    (one.0 ++ more.0, one.1 ∙ (ap (λ (ws : List ℕ). one.0 ++ ws) more.1 ∙ sym (append_assoc one.0 more.0 y.remainders)))
