use Rattle.std.proofs.Common.{◌==◌, arith, take}
use Rattle.constriction_symbol.specs.DecoderTree.{tree_of_pairs}
use Rattle.constriction_symbol.proofs.FirstBits.{place_moves, place_stays}
use Rattle.constriction_symbol.proofs.Walking.{node_within}
use Rattle.constriction_symbol.proofs.huffman.first_bits.place_below.Goals as goal

pub bounds-nodes-place : goal.bounds-nodes-place
bounds-nodes-place c =
    let p = c.requires.place in
    node_within c.args.nodes.now c.args.place.index (tree_of_pairs c.args.nodes.now) p.2.leads.tree (take c.args.place.taken p.0) (omega (arith, c.if-place-symbols.false)) p.2.leads.leads p.2.leads.at

pub offset_bounds-nodes-place : goal.offset_bounds-nodes-place
offset_bounds-nodes-place c =
    let p = c.requires.place in
    let within = node_within c.args.nodes.now c.args.place.index (tree_of_pairs c.args.nodes.now) p.2.leads.tree (take c.args.place.taken p.0) (omega (arith, c.if-place-symbols.false)) p.2.leads.leads p.2.leads.at in
    record { fits = omega (arith, within) }

pub overflow_add-result : goal.overflow_add-result
overflow_add-result c = record { fits = omega (arith, c.requires.place.1, c.requires.place.2.within) }

pub returns-then-place-symbols : goal.returns-then-place-symbols
returns-then-place-symbols c = λ bits is. place_stays c.args.nodes.now bits (c.args.bit == 1) c.args.place c.if-place-symbols.true is

pub returns : goal.returns
returns c = λ bits is. place_moves c.args.nodes.now bits c.args.bit c.args.place c.requires.below (λ low. omega (arith, low, c.if-place-symbols.false)) is
