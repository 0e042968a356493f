use Rattle.std.proofs.Common.{◌∙◌, ◌%◌, ◌^◌, ◌-◌, ℕ, List, length, inl, inr, subst, ap, arith}
use Rattle.std.proofs.lemmas.Iterator.{items_from_drains, YieldsList-from_slice}
use Rattle.constriction_symbol.specs.Huffman.{IsHuffman, book_of}
use Rattle.constriction_symbol.specs.Merging.{MakeNoTree}
use Rattle.constriction_commands.proofs.TreeTexts.{own_total, own_weights}
use Rattle.constriction_commands.proofs.commands.huffman.make_tree.Goals as goal

pub returns-in-Ok-clause-ok : goal.returns-in-Ok-clause-ok
returns-in-Ok-clause-ok c =
    let weights = c.args.weights.now in
    let made = c.in-Ok.ensures.ok in
    let lent = made.1.4 ∙ items_from_drains made.1.2 (made.1.3.1.0, made.1.3.1.1, λ _. (made.1.3.0, made.1.3.1.2)) (YieldsList-from_slice weights made.1.1.0) in
    subst (λ ws. IsHuffman ws (book_of c.in-Ok.tree)) (own_weights made.0 weights lent c.type_inv.weights) made.2.1

pub returns-in-Err-TooManySymbols-clause-err : goal.returns-in-Err-TooManySymbols-clause-err
returns-in-Err-TooManySymbols-clause-err c =
    let weights = c.args.weights.now in
    let error = c.in-Err-TooManySymbols.field-0-is in
    elim c.in-Err-TooManySymbols.ensures.err [
      | inl never ↦ absurd (let memory = never.0 in cc)
      | inr found ↦
          let lent = found.1.4 ∙ items_from_drains found.1.2 (found.1.3.1.0, found.1.3.1.1, λ _. (found.1.3.0, found.1.3.1.2)) (YieldsList-from_slice weights found.1.1.0) in
          let why = subst (λ e. MakeNoTree (λ (x : ℕ). x % 2 ^ 64) 64 (2 ^ 62 - 1) found.0 e) error found.2 in
          omega (arith, why.1, ap (λ (ws : List ℕ). length ws) lent)
    ]

pub returns-in-Err-WeightOverflow-clause-err : goal.returns-in-Err-WeightOverflow-clause-err
returns-in-Err-WeightOverflow-clause-err c =
    let weights = c.args.weights.now in
    let error = c.in-Err-WeightOverflow.field-0-is in
    elim c.in-Err-WeightOverflow.ensures.err [
      | inl never ↦ absurd (let memory = never.0 in cc)
      | inr found ↦
          let lent = found.1.4 ∙ items_from_drains found.1.2 (found.1.3.1.0, found.1.3.1.1, λ _. (found.1.3.0, found.1.3.1.2)) (YieldsList-from_slice weights found.1.1.0) in
          let why = subst (λ e. MakeNoTree (λ (x : ℕ). x % 2 ^ 64) 64 (2 ^ 62 - 1) found.0 e) error found.2 in
          omega (arith, why.2, own_total found.0 weights lent c.type_inv.weights)
    ]
