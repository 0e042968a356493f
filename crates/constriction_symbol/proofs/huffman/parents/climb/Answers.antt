use Rattle.std.proofs.Common.{of_calls}
use Rattle.constriction_symbol.proofs.Climbing.{climbed_reversed, parent_within}
use Rattle.constriction_symbol.proofs.GolombLemmas.{emitted_more, emitted_failed}
use Rattle.constriction_symbol.proofs.huffman.parents.climb.Goals as goal

pub returns-in-Err : goal.returns-in-Err
returns-in-Err g c =
    let top = climbed_reversed c.args.nodes.now c.loop-index.index c.requires.rising c.loop-index-test.true in
    c.loop-index.invariant.all _ _ (emitted_failed g.F.FnMut top c.in-Err.is c.emit.ensures)

pub loop-index-preserved : goal.loop-index-preserved
loop-index-preserved g c =
    let top = climbed_reversed c.args.nodes.now c.loop-index.index c.requires.rising c.loop-index-test.true in
    record {
      callable = search of_calls;
      within = parent_within c.args.nodes.now c.loop-index.index c.requires.rising c.loop-index-test.true;
      all = λ r last e. c.loop-index.invariant.all r last (emitted_more g.F.FnMut r last top c.in-Ok.is c.emit.ensures e);
    }
