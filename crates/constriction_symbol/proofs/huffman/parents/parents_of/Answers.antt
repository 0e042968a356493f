use Rattle.std.proofs.Common.{arith, ◌∙◌}
use Rattle.std.proofs.lemmas.List.{length-set}
use Rattle.constriction_symbol.proofs.Climbing.{parents_step, union_within}
use Rattle.constriction_symbol.proofs.huffman.parents.parents_of.Goals as goal

pub index_mut-requires : goal.index_mut-requires
index_mut-requires c =
    let inside = union_within c.args.pairs.now c.loop-step.step c.loop-step-test.true c.requires.unions in
    omega (arith, inside.0, c.loop-step.invariant.len, c.loop-step.nodes.ok.0)

pub index_mut-requires-in-loop-step : goal.index_mut-requires-in-loop-step
index_mut-requires-in-loop-step c =
    let inside = union_within c.args.pairs.now c.loop-step.step c.loop-step-test.true c.requires.unions in
    omega (arith, inside.1, c.loop-step.invariant.len, c.loop-step.nodes.ok.0)

pub loop-step-preserved : goal.loop-step-preserved
loop-step-preserved c = record {
  len = length-set _ _ _ ∙ (length-set _ _ _ ∙ c.loop-step.invariant.len);
  made = parents_step c.args.pairs.now c.loop-step.step c.loop-step.nodes.items c.loop-step-test.true c.loop-step.invariant.len c.requires.unions c.loop-step.invariant.made;
}
