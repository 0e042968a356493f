use Rattle.std.proofs.Common.{◌∙◌, ap, inl, inr, length, map, subst, sym}
use Rattle.std.proofs.lemmas.List.{length-map}
use Rattle.std.proofs.lemmas.Result.{IfErr-weaker, IfOk-weaker}
use Rattle.std.proofs.lemmas.Iterator.{items_from_drains, YieldsList-from_slice}
use Rattle.constriction_symbol.specs.Huffman.{huffman, path}
use Rattle.constriction_symbol.specs.Merging.{MakeNoTree, MakesTree}
use Rattle.constriction_laws.proofs.of_symbol.least_cost.Books.{least_of_books, tree_costs}
use Rattle.constriction_laws.proofs.symbol.costs.tree_of_least_cost.Goals as goal

pub returns-clause-ok : goal.returns-clause-ok
returns-clause-ok g c =
    IfOk-weaker c.from_probabilities.result _ _
    (λ tree made.
    let lent = made.1 in
    let is = lent.4 ∙ items_from_drains lent.2 (lent.3.1.0, lent.3.1.1, λ _. (lent.3.0, lent.3.1.2)) (YieldsList-from_slice c.args.weights.now lent.1.0) in
    subst (λ weights. MakesTree g.P.Natural.number g.P.Natural.BITS 4611686018427387903 weights tree) is made.2)
    c.from_probabilities.ensures.ok

pub returns-clause-known : goal.returns-clause-known
returns-clause-known g c =
    let number = g.P.Natural.number in
    let weights = c.args.weights.now in
    IfOk-weaker c.from_probabilities.result _ _ (λ tree made. tree_costs (map number weights) (length weights) (sym (length-map weights number)) (path tree) made.1.1) (returns-clause-ok g c)

pub returns-clause-least : goal.returns-clause-least
returns-clause-least g c =
    let number = g.P.Natural.number in
    let weights = c.args.weights.now in
    IfOk-weaker c.from_probabilities.result _ _
    (λ tree made other.
    let lent = made.1 in
    let is = lent.4 ∙ items_from_drains lent.2 (lent.3.1.0, lent.3.1.1, λ _. (lent.3.0, lent.3.1.2)) (YieldsList-from_slice weights lent.1.0) in
    least_of_books (map number weights) (length weights) (path tree) (λ s. made.2.1.1 s ∙ ap (λ ws. huffman (map number ws) s) is) (g.C.Codebook.codeword other) (g.C.Codebook.is_same other) (g.C.Codebook.prefix_law other))
    c.from_probabilities.ensures.ok

pub returns-clause-err : goal.returns-clause-err
returns-clause-err g c =
    IfErr-weaker c.from_probabilities.result _ _
    (λ e refused. elim refused [
      | inl none ↦ inl none.0
      | inr given ↦
          let lent = given.1 in
          let is = lent.4 ∙ items_from_drains lent.2 (lent.3.1.0, lent.3.1.1, λ _. (lent.3.0, lent.3.1.2)) (YieldsList-from_slice c.args.weights.now lent.1.0) in
          inr (subst (λ weights. MakeNoTree g.P.Natural.number g.P.Natural.BITS 4611686018427387903 weights e) is given.2)
    ])
    c.from_probabilities.ensures.err
