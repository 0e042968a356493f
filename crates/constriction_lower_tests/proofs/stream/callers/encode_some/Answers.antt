use Rattle.std.specs.Iterator.{Yields}
use Rattle.std.specs.Prelude.{MatchOption}
use Rattle.std.proofs.Common.{List, Option, Bor, Iter, length, ◌≡◌, ◌∷◌, ◌++◌, ◌∙◌, sym, ap, subst, map}
use Rattle.std.proofs.lemmas.Result.{MatchResult-weaker}
use Rattle.std.proofs.lemmas.Iterator.{items_from_drains, YieldsList-from_slice}
use Rattle.constriction_stream.specs.Lists.{StepsAll}
use Rattle.constriction_stream.specs.Symbols.{EncodesSymbol}
use Rattle.constriction_stream.proofs.Lists.{StepsAll-map, Yields-front}
use Rattle.constriction_lower_tests.proofs.stream.callers.encode_some.Goals as goal

-- what an iterator over a slice has given is the front of the slice
fronts_are : {A : Type 0} (s : Iter A) (xs : List (Bor A)) (t : Iter A)
    → Yields (λ s r t. MatchOption r ((length s.rest.now ≡ 0) × (t ≡ s)) (λ x. s.rest.now ≡ x.now ∷ t.rest.now)) s xs t
    → s.rest.now ≡ map (λ x. x.now) xs ++ t.rest.now
fronts_are {A} s xs t run =
    Yields-front (λ (s : Iter A) (r : Option (Bor A)) (t : Iter A). MatchOption r ((length s.rest.now ≡ 0) × (t ≡ s)) (λ x. s.rest.now ≡ x.now ∷ t.rest.now))
    (λ s. s.rest.now) (λ x. x.now) (λ s t x step. step) s xs t run

pub returns-clause-ok : goal.returns-clause-ok
returns-clause-ok g c =
    let e = c.encode_iid_symbols.ensures.steps in
    MatchResult-weaker c.encode_iid_symbols.result e.5
    (λ _ p.
    subst (λ z. StepsAll (λ old symbol result new. EncodesSymbol g.C.Encode.encodes g.C.Encode.is_impossible_symbol 8 (g.M.EntropyModel.table c.args.model.now) symbol old result new) c.args.coder.now z c.encode_iid_symbols.new.self)
    (items_from_drains e.2 (p.1.1.0, p.1.1.1, λ _. (p.1.0, p.1.1.2)) (YieldsList-from_slice _ e.1.0))
    (subst (λ z. StepsAll (λ old symbol result new. EncodesSymbol g.C.Encode.encodes g.C.Encode.is_impossible_symbol 8 (g.M.EntropyModel.table c.args.model.now) symbol old result new) c.args.coder.now (map (λ s. s.now) e.2) z) p.0
    (StepsAll-map (λ s. s.now) (λ old symbol result new. EncodesSymbol g.C.Encode.encodes g.C.Encode.is_impossible_symbol 8 (g.M.EntropyModel.table c.args.model.now) symbol.now old result new) (λ old symbol result new. EncodesSymbol g.C.Encode.encodes g.C.Encode.is_impossible_symbol 8 (g.M.EntropyModel.table c.args.model.now) symbol old result new)
    (λ old new x s. s) c.args.coder.now e.2 e.3 e.4)))
    (λ _ _. tt)

pub returns-clause-err : goal.returns-clause-err
returns-clause-err g c =
    let e = c.encode_iid_symbols.ensures.steps in
    MatchResult-weaker c.encode_iid_symbols.result e.5
    (λ _ _. tt)
    (λ error p. (
      map (λ s. s.now) e.2,
      p.0.now,
      p.1.rest.now,
      sym e.1.0 ∙ fronts_are e.0 e.2 p.2.0 p.2.1
          ∙ ap (λ ys. map (λ s. s.now) e.2 ++ ys) p.2.2,
      e.3,
      StepsAll-map (λ s. s.now) (λ old symbol result new. EncodesSymbol g.C.Encode.encodes g.C.Encode.is_impossible_symbol 8 (g.M.EntropyModel.table c.args.model.now) symbol.now old result new) (λ old symbol result new. EncodesSymbol g.C.Encode.encodes g.C.Encode.is_impossible_symbol 8 (g.M.EntropyModel.table c.args.model.now) symbol old result new) (λ old new x s. s) c.args.coder.now e.2 e.3 e.4,
      p.3,
    ))
