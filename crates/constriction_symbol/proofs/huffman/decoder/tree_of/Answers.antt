use Rattle.std.proofs.Common.{map, arith}
use Rattle.std.proofs.lemmas.List.{length-map}
use Rattle.constriction_symbol.specs.DecoderTree.{tree_of_pairs}
use Rattle.constriction_symbol.proofs.HuffmanMerge.{merged_book}
use Rattle.constriction_symbol.proofs.DecoderTrees.{pairs_hold}
use Rattle.constriction_symbol.proofs.huffman.decoder.tree_of.Goals as goal

pub places_of-requires : goal.places_of-requires
places_of-requires g c =
    let n = length-map c.args.weights.now g.P.Natural.number in
    let few = c.in_ok-nodes.ensures.fit.few in
    record { tree = rw c.deref.ensures.value (pairs_hold (map g.P.Natural.number c.args.weights.now) c.in_ok-nodes.nodes.items (omega (arith, n, few)) c.in_ok-nodes.ensures.ok).0 }

pub invariant_of-result : goal.invariant_of-result
invariant_of-result g c =
    let n = length-map c.args.weights.now g.P.Natural.number in
    let few = c.in_ok-nodes.ensures.fit.few in
    let held = (pairs_hold (map g.P.Natural.number c.args.weights.now) c.in_ok-nodes.nodes.items (omega (arith, n, few)) c.in_ok-nodes.ensures.ok).0 in
    let made = c.in_ok-places.ensures in
    (held, rw c.deref.ensures.value at made.places, made.some, made.few, made.count)

pub returns-clause-ok : goal.returns-clause-ok
returns-clause-ok g c =
    let n = length-map c.args.weights.now g.P.Natural.number in
    let few = c.in_ok-nodes.ensures.fit.few in
    let held = pairs_hold (map g.P.Natural.number c.args.weights.now) c.in_ok-nodes.nodes.items (omega (arith, n, few)) c.in_ok-nodes.ensures.ok in
    (c.in_ok-nodes.ensures.fit, merged_book (map g.P.Natural.number c.args.weights.now) (tree_of_pairs c.in_ok-nodes.nodes.items) held.1)
