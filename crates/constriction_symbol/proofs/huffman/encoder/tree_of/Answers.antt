use Rattle.std.proofs.Common.{map, arith}
use Rattle.std.proofs.lemmas.List.{length-map}
use Rattle.constriction_symbol.specs.EncoderTree.{tree_of_parents}
use Rattle.constriction_symbol.proofs.HuffmanMerge.{merged_book}
use Rattle.constriction_symbol.specs.Merging.{ArePairs}
use Rattle.constriction_symbol.proofs.EncoderTrees.{pairs_unions, parents_climb}
use Rattle.constriction_symbol.proofs.huffman.encoder.tree_of.Goals as goal

pub parents_of-requires-clause-unions : goal.parents_of-requires-clause-unions
parents_of-requires-clause-unions g c =
    let made : ArePairs (map g.P.Natural.number c.args.weights.now) c.deref.result.now = rw c.deref.ensures.value c.in_ok-pairs.ensures.ok in
    (pairs_unions (map g.P.Natural.number c.args.weights.now) c.deref.result.now made).0

pub parents_of-requires-clause-fits : goal.parents_of-requires-clause-fits
parents_of-requires-clause-fits g c =
    let made : ArePairs (map g.P.Natural.number c.args.weights.now) c.deref.result.now = rw c.deref.ensures.value c.in_ok-pairs.ensures.ok in
    let n = length-map c.args.weights.now g.P.Natural.number in
    let few = c.in_ok-pairs.ensures.fit.few in
    omega (arith, n, few, (pairs_unions (map g.P.Natural.number c.args.weights.now) c.deref.result.now made).1)

pub invariant_of-result : goal.invariant_of-result
invariant_of-result g c =
    let made : ArePairs (map g.P.Natural.number c.args.weights.now) c.deref.result.now = rw c.deref.ensures.value c.in_ok-pairs.ensures.ok in
    ((parents_climb (map g.P.Natural.number c.args.weights.now) c.deref.result.now c.in-Ok.nodes.items made c.in-Ok.ensures.count c.in-Ok.ensures.ok).0, rw c.deref-2.ensures.value at c.in-Ok-codewords_of.ensures)

pub returns-in-Ok-codewords_of-clause-ok : goal.returns-in-Ok-codewords_of-clause-ok
returns-in-Ok-codewords_of-clause-ok g c =
    let made : ArePairs (map g.P.Natural.number c.args.weights.now) c.deref.result.now = rw c.deref.ensures.value c.in_ok-pairs.ensures.ok in
    let held = parents_climb (map g.P.Natural.number c.args.weights.now) c.deref.result.now c.in-Ok.nodes.items made c.in-Ok.ensures.count c.in-Ok.ensures.ok in
    (c.in_ok-pairs.ensures.fit, merged_book (map g.P.Natural.number c.args.weights.now) (tree_of_parents c.in-Ok.nodes.items) held.1)
