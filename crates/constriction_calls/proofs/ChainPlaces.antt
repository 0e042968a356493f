-- Encodes of a chain coder at the positions of a list of items.
use Rattle.std.proofs.Common.{◌≡◌, ◌∙◌, ℕ, ◌-◌, ◌*◌, ◌<◌, List, [], ◌∷◌, ◌++◌, Ok, Err, Result, length, drop, take, inl, inr, refl, ap, append_assoc, arith, replicate}
use Rattle.std.specs.Prelude.{reverse}
use Rattle.std.proofs.lemmas.List.{drop_all, reverse-append, length-append, length-replicate}
use Rattle.constriction_base.specs.Models.{Item, pairs_of}
use Rattle.constriction_base.proofs.Turns.{reverse_at}
use Rattle.constriction_chain.specs.Chain.{ChainState, IsEncode, least}
use Rattle.constriction_chain.specs.Symbols.{ChainEncodesOne, ChainEncodesAll, ChainDecodesAll}
use Rattle.constriction_inputs.specs.Items.{HasAt, HasInterval}
use Rattle.constriction_inputs.specs.declared.refusal.Refusal.{Refusal}
use Rattle.constriction_inputs.proofs.Places.{further_back, has_more, last_at, unknown}
use Rattle.constriction_calls.specs.ChainCalls.{LacksRemainders, NeedsRemainders, LacksCompressed}
use Rattle.constriction_calls.specs.ChainItems.{PutsItem, PutsBackItems, PutsStep}
use Rattle.constriction_chain.specs.Walk.{NeedsWord}
use Rattle.constriction_inputs.proofs.Pairs.{pairs_begin}

-- ---- the step of an item's interval
module _ (w s precision bits : ℕ) (items : List (Item ℕ)) (k l p : ℕ) (at : HasAt items k (HasInterval precision bits l p)) where
  put_at : (a b : ChainState) → IsEncode w s (record { precision = precision; left = l; p = p }) a b → HasAt items k (λ item. ChainEncodesOne w s item.model item.symbol a b)
  put_at a b step = has_more items k (HasInterval precision bits l p) (λ item. ChainEncodesOne w s item.model item.symbol a b) (λ item e. (l, p, e.1.has, rw e.0 step)) at

  needs_at : (a : ChainState) → a.r < p * least w s precision → HasAt items k (NeedsRemainders w s a)
  needs_at a short = has_more items k (HasInterval precision bits l p) (NeedsRemainders w s a) (λ item e. (l, p, e.1.has, rw e.0 short)) at

  pub puts_at : (a b : ChainState) (answer : Result (Unit {0}) Refusal) → PutsStep w s (record { precision = precision; left = l; p = p }) a b answer → PutsItem w s items k a b answer
  puts_at a b (Ok tt) step = record { put = put_at a b step.put; refused = tt }
  puts_at a b (Err e) step =
      record {
        put = tt;
        refused = elim step.refused [
          | inl memory ↦ inl memory
          | inr ends ↦ inr (inr (ends.0, needs_at a ends.1, ends.2))
        ];
      }

-- ---- all items, from the last to the first
module _ (w s : ℕ) (items : List (Item ℕ)) (left : ℕ) (some : 0 < left) where
  -- one encode more
  pub put_more : (a b c : ChainState) → ChainEncodesAll w s (reverse (drop left items)) a b → HasAt items (left - 1) (λ item. ChainEncodesOne w s item.model item.symbol b c)
      → ChainEncodesAll w s (reverse (drop (left - 1) items)) a c
  put_more a b c all at = further_back (λ item. ChainEncodesOne w s item.model item.symbol) items left some a b c all at

  -- the remainders end
  lacks_more : (a b : ChainState) → ChainEncodesAll w s (reverse (drop left items)) a b → HasAt items (left - 1) (NeedsRemainders w s b) → b.remainders ≡ [] → LacksRemainders w s (reverse items) a
  lacks_more a b all at ended =
      let found = last_at items left (NeedsRemainders w s b) some at in
      let others = reverse (take (left - 1) items) in
      let parts : reverse items ≡ reverse (drop left items) ++ found.0 ∷ others =
      reverse_at (left - 1) items ∙ (ap (λ (ys : List (Item ℕ)). ys ++ others) (ap reverse found.1 ∙ reverse-append (found.0 ∷ []) (drop left items)) ∙ append_assoc (reverse (drop left items)) (found.0 ∷ []) others) in
      record {
        first = reverse (drop left items);
        item = found.0;
        others = others;
        last = b;
        parts = parts;
        put = all;
        needs = found.2;
        ended = ended;
      }

  -- a refused item refuses all
  pub refused_more : (a b c d : ChainState) (e : Refusal) → ChainEncodesAll w s (reverse (drop left items)) a b → PutsItem w s items (left - 1) b c (Err e) → PutsBackItems w s items a d (Err e)
  refused_more a b c d e all one =
      record {
        put = tt;
        refused = elim one.refused [
          | inl memory ↦ inl memory
          | inr (inl never) ↦ inr (inl (never.0, unknown items (left - 1) never.1))
          | inr (inr ends) ↦ inr (inr (ends.0, lacks_more a b all ends.1 ends.2))
        ];
      }

-- a single item is all
pub single_put : (w s : ℕ) (items : List (Item ℕ)) (a b : ChainState) (answer : Result (Unit {0}) Refusal) → length items ≡ 1 → PutsItem w s items 0 a b answer → PutsBackItems w s items a b answer
single_put w s items a b (Ok tt) one put =
    let none : ChainEncodesAll w s (reverse (drop 1 items)) a a = rw (drop_all 1 items (omega (arith, one))) refl in
    record { put = put_more w s items 1 (omega arith) a a b none put.put; refused = tt }
single_put w s items a b (Err e) one put =
    let none : ChainEncodesAll w s (reverse (drop 1 items)) a a = rw (drop_all 1 items (omega (arith, one))) refl in
    refused_more w s items 1 (omega arith) a a b b e none put

-- ---- symbols that end early, with others behind them
pub ends_pairs : {M : Type 0} (w s P : ℕ) (table : M → List (ℕ × ℕ × ℕ)) (xs : List ℕ) (ms : List M) (count k : ℕ) (x last : ChainState) → length xs ≡ k → k < count → length ms ≡ count
    → ChainDecodesAll w s (pairs_of P table xs ms) x last → NeedsWord w P last.h × (last.compressed ≡ []) → LacksCompressed w s P (λ symbols. pairs_of P table symbols ms) count x
ends_pairs w s P table xs ms count k x last counted few many taken stop =
    record {
      symbols = xs ++ replicate (count - k) 0;
      done = length xs;
      last = last;
      count_is = omega (arith, length-append xs (replicate (count - k) 0), length-replicate {A = ℕ} (count - k) 0);
      fewer = omega arith;
      taken = rw (pairs_begin P table xs (replicate (count - k) 0) ms (omega arith)) taken;
      needs = stop.0;
      ended = stop.1;
    }
