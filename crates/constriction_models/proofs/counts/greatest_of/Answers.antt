use Rattle.std.proofs.Common.{◌∙◌, arith}
use Rattle.std.proofs.lemmas.Map.Keys.{ge_from_not_lt}
use Rattle.constriction_models.proofs.Dividing.{is_reached, exceeded_behind}
use Rattle.constriction_models.proofs.counts.greatest_of.Goals as goal

pub returns-clause-enough : goal.returns-clause-enough
returns-clause-enough c =
    let r = c.select_nth_unstable-measure in
    (is_reached c.args.measures.now r.result.0.now r.result.2.now r.result.1.now c.args.count r.ensures.permutation
    (λ k h. ge_from_not_lt _ _ (r.ensures.partitioned.0 k 0 h)) (λ k h. ge_from_not_lt _ _ (r.ensures.partitioned.1 k 0 h)) (omega (arith, r.ensures.front_len, c.requires))).enough

pub returns-clause-few : goal.returns-clause-few
returns-clause-few c =
    let r = c.select_nth_unstable-measure in
    let is = is_reached c.args.measures.now r.result.0.now r.result.2.now r.result.1.now c.args.count r.ensures.permutation
    (λ k h. ge_from_not_lt _ _ (r.ensures.partitioned.0 k 0 h)) (λ k h. ge_from_not_lt _ _ (r.ensures.partitioned.1 k 0 h)) (omega (arith, r.ensures.front_len, c.requires)) in
    let behind = exceeded_behind c.args.measures.now r.result.0.now r.result.2.now r.result.1.now r.ensures.permutation (λ k h. ge_from_not_lt _ _ (r.ensures.partitioned.0 k 0 h)) in
    omega (arith, c.count_above.ensures, behind, is.few)

pub returns-clause-more : goal.returns-clause-more
returns-clause-more c =
    let r = c.select_nth_unstable-measure in
    c.count_above.ensures ∙ exceeded_behind c.args.measures.now r.result.0.now r.result.2.now r.result.1.now r.ensures.permutation (λ k h. ge_from_not_lt _ _ (r.ensures.partitioned.0 k 0 h))
