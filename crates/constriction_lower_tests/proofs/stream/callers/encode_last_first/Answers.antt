use Rattle.std.specs.Slice.Iter.{iter_rest, iter_steps_back}
use Rattle.std.proofs.Common.{List, Bor, Iter, reverse, ◌≡◌, ◌∷◌, [], ◌∙◌, ap, subst, map}
use Rattle.std.proofs.lemmas.List.{length-reverse, reverse-append}
use Rattle.std.proofs.lemmas.Result.{MatchResult-weaker}
use Rattle.std.proofs.lemmas.Iterator.{YieldsList, items_from_drains}
use Rattle.std.proofs.lemmas.Iterator.Consumers.{YieldsList-from_shown}
use Rattle.constriction_stream.specs.Lists.{StepsAll}
use Rattle.constriction_stream.specs.Symbols.{EncodesSymbol}
use Rattle.constriction_stream.proofs.Lists.{StepsAll-map}
use Rattle.constriction_lower_tests.proofs.stream.callers.encode_last_first.Goals as goal

-- from the back a slice is given in reverse
backs_are : {A : Type 0} (s : Iter A) (xs : List A) → iter_rest s ≡ xs → YieldsList iter_steps_back (λ y. y.now) s (reverse xs)
backs_are {A} s xs e = subst (λ k. YieldsList iter_steps_back (λ y. y.now) s (reverse k)) e
    (YieldsList-from_shown iter_steps_back (λ y. y.now) (λ u. reverse (iter_rest u)) (λ u t p. length-reverse _ ∙ p.0)
    (λ u x t p. ap reverse p ∙ reverse-append (iter_rest t) (x.now ∷ [])) s)

pub returns : goal.returns
returns g c =
    let e = c.encode_iid_symbols_reverse.ensures.steps in
    MatchResult-weaker c.encode_iid_symbols_reverse.result e.5
    (λ _ p.
    subst (λ z. StepsAll (λ old symbol result new. EncodesSymbol g.C.Encode.encodes g.C.Encode.is_impossible_symbol 8 (g.M.EntropyModel.table c.args.model.now) symbol old result new) c.args.coder.now z c.encode_iid_symbols_reverse.new.self)
    (items_from_drains e.2 (p.1.1.0, p.1.1.1, λ _. (p.1.0, p.1.1.2)) (backs_are e.0 _ e.1.0))
    (subst (λ z. StepsAll (λ old symbol result new. EncodesSymbol g.C.Encode.encodes g.C.Encode.is_impossible_symbol 8 (g.M.EntropyModel.table c.args.model.now) symbol old result new) c.args.coder.now (map (λ s. s.now) e.2) z) p.0
    (StepsAll-map (λ s. s.now) (λ old symbol result new. EncodesSymbol g.C.Encode.encodes g.C.Encode.is_impossible_symbol 8 (g.M.EntropyModel.table c.args.model.now) symbol.now old result new) (λ old symbol result new. EncodesSymbol g.C.Encode.encodes g.C.Encode.is_impossible_symbol 8 (g.M.EntropyModel.table c.args.model.now) symbol old result new)
    (λ old new x s. s) c.args.coder.now e.2 e.3 e.4)))
    (λ _ _. tt)
