use Rattle.std.proofs.Common.{◌≡◌, ◌+◌, ◌*◌, [], ◌∷◌, ◌++◌, length, map, arith, ap, subst, sym, refl, ◌∙◌, append-nil}
use Rattle.constriction_symbol.specs.DecoderTree.{tree_of_pairs}
use Rattle.constriction_symbol.specs.Huffman.{IsTreeAt, ReadsOnIn}
use Rattle.constriction_symbol.proofs.HuffmanTrees.{node_at}
use Rattle.constriction_symbol.specs.Merging.{as_pair}
use Rattle.constriction_symbol.proofs.BitsGiven.{gives_then, stops_then}
use Rattle.constriction_symbol.proofs.Walking.{node_within, child_below, child_at, arrived}
use Rattle.constriction_symbol.proofs.huffman.decoder.walk.Goals as goal

pub loop-index-init : goal.loop-index-init
loop-index-init g c =
    let root : length c.args.nodes.now + length c.args.nodes.now ≡ 2 * length c.args.nodes.now = omega arith in
    record {
      can = c.requires.can;
      finite = λ ends. ends;
      tree = tree_of_pairs c.args.nodes.now;
      taken = [];
      leads = refl;
      at = subst (λ i. IsTreeAt (length c.args.nodes.now + 1) (map as_pair c.args.nodes.now) i (tree_of_pairs c.args.nodes.now)) root c.requires.tree.at;
      gives = refl;
    }

pub returns-in-Err-clause-stops : goal.returns-in-Err-clause-stops
returns-in-Err-clause-stops g c =
    let h = c.loop-index.invariant in
    let on = node_at (length c.args.nodes.now + 1) (map as_pair c.args.nodes.now) c.loop-index.index (tree_of_pairs c.args.nodes.now) h.tree h.taken c.loop-index-test.true h.leads h.at in
    stops_then g.I.Iterator.next_gives (λ bits. bits ≡ []) (ReadsOnIn (tree_of_pairs c.args.nodes.now)) c.args.source.now c.loop-index.source c.next_bit.new.source h.taken c.in-Err.error h.gives
    (λ ys none. subst (ReadsOnIn (tree_of_pairs c.args.nodes.now)) (sym (ap (λ bs. h.taken ++ bs) none ∙ append-nil h.taken)) on.0)
    c.in-Err.ensures.stops

pub offset_bounds-nodes-index : goal.offset_bounds-nodes-index
offset_bounds-nodes-index g c =
    let h = c.loop-index.invariant in
    let within = node_within c.args.nodes.now c.loop-index.index (tree_of_pairs c.args.nodes.now) h.tree h.taken c.loop-index-test.true h.leads h.at in
    record { fits = omega (arith, within) }

pub bounds-nodes-index : goal.bounds-nodes-index
bounds-nodes-index g c = let h = c.loop-index.invariant in node_within c.args.nodes.now c.loop-index.index (tree_of_pairs c.args.nodes.now) h.tree h.taken c.loop-index-test.true h.leads h.at

pub loop-index-smaller : goal.loop-index-smaller
loop-index-smaller g c = let h = c.loop-index.invariant in child_below c.args.nodes.now c.loop-index.index (tree_of_pairs c.args.nodes.now) h.tree h.taken c.in-Ok.bit c.loop-index-test.true h.leads h.at

pub loop-index-preserved : goal.loop-index-preserved
loop-index-preserved g c =
    let h = c.loop-index.invariant in
    let ok = c.in-Ok.ensures in
    let down = child_at c.args.nodes.now c.loop-index.index (tree_of_pairs c.args.nodes.now) h.tree h.taken c.in-Ok.bit c.loop-index-test.true h.leads h.at in
    record {
      can = ok.can;
      finite = λ ends. ok.finite (h.finite ends);
      tree = down.0;
      taken = h.taken ++ c.in-Ok.bit ∷ [];
      leads = down.1;
      at = down.2;
      gives = gives_then g.I.Iterator.next_gives c.args.source.now c.loop-index.source c.next_bit.new.source h.taken (c.in-Ok.bit ∷ []) h.gives ok.bit;
    }

pub returns-clause-bits : goal.returns-clause-bits
returns-clause-bits g c =
    let h = c.loop-index.invariant in
    (h.taken, arrived c.args.nodes.now c.loop-index.index (tree_of_pairs c.args.nodes.now) h.tree h.taken c.requires.tree (omega (arith, c.loop-index-test.false)) h.leads h.at, h.gives)
