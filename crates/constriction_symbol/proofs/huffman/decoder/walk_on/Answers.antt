use Rattle.std.proofs.Common.{◌≡◌, ◌-◌, ◌/◌, ◌^◌, ◌≤◌, [], ◌∷◌, ◌++◌, length, reverse, arith, ap, sym, ◌∙◌, Some}
use Rattle.std.proofs.lemmas.List.{length-append, length-reverse, reverse-reverse}
use Rattle.constriction_symbol.specs.Bits.{bits_of}
use Rattle.constriction_symbol.specs.DecoderTree.{tree_of_pairs}
use Rattle.constriction_symbol.proofs.Coding.{length_bits}
use Rattle.constriction_symbol.proofs.FirstBits.{top_split}
use Rattle.constriction_symbol.proofs.Walking.{node_within, child_below, child_at, arrived, last_bits, taken_is, taken_more}
use Rattle.constriction_symbol.proofs.huffman.decoder.walk_on.Goals as goal

pub loop-index-init : goal.loop-index-init
loop-index-init g c =
    let w = g.Word.Natural.BITS in
    let n = g.Word.Natural.number c.args.bits in
    let t = c.args.place.taken in
    let within : t ≤ w = omega (arith, c.requires.part, c.requires.within) in
    record {
      tree = c.requires.place.tree;
      taken = reverse (bits_of t (n / 2 ^ (w - t)));
      leads = c.requires.place.leads;
      at = c.requires.place.at;
      some = omega (arith, c.requires.some, length-reverse (bits_of t (n / 2 ^ (w - t))), length_bits t (n / 2 ^ (w - t)));
      few = omega (arith, c.requires.part, length-reverse (bits_of t (n / 2 ^ (w - t))), length_bits t (n / 2 ^ (w - t)));
      bits = top_split w t n c.all-rest.result c.drop_last.new.self within c.all-rest.ensures c.drop_last.ensures;
    }

pub drop_last-requires-clause-within : goal.drop_last-requires-clause-within
drop_last-requires-clause-within g c =
    omega (arith, c.requires.part, c.requires.within, ap length c.all-rest.ensures, length_bits g.Word.Natural.BITS (g.Word.Natural.number c.args.bits))

pub offset_bounds-nodes-index : goal.offset_bounds-nodes-index
offset_bounds-nodes-index g c =
    let h = c.loop-index.invariant in
    let within = node_within c.args.nodes.now c.loop-index.index (tree_of_pairs c.args.nodes.now) h.tree h.taken c.loop-index-test.true h.leads h.at in
    record { fits = omega (arith, within) }

pub bounds-nodes-index : goal.bounds-nodes-index
bounds-nodes-index g c = let h = c.loop-index.invariant in node_within c.args.nodes.now c.loop-index.index (tree_of_pairs c.args.nodes.now) h.tree h.taken c.loop-index-test.true h.leads h.at

pub loop-index-smaller : goal.loop-index-smaller
loop-index-smaller g c = let h = c.loop-index.invariant in child_below c.args.nodes.now c.loop-index.index (tree_of_pairs c.args.nodes.now) h.tree h.taken c.pop.result c.loop-index-test.true h.leads h.at

pub loop-index-preserved : goal.loop-index-preserved
loop-index-preserved g c =
    let h = c.loop-index.invariant in
    let down = child_at c.args.nodes.now c.loop-index.index (tree_of_pairs c.args.nodes.now) h.tree h.taken c.pop.result c.loop-index-test.true h.leads h.at in
    let count = taken_is g.Word.Natural.BITS (g.Word.Natural.number c.args.bits) c.room.result c.loop-index.rest h.taken h.bits c.room.ensures in
    record {
      tree = down.0;
      taken = h.taken ++ c.pop.result ∷ [];
      leads = down.1;
      at = down.2;
      some = omega (arith, h.some, length-append h.taken (c.pop.result ∷ []));
      few = omega (arith, length-append h.taken (c.pop.result ∷ []), count, c.if-room-count.false);
      bits = taken_more (bits_of g.Word.Natural.BITS (g.Word.Natural.number c.args.bits)) c.loop-index.rest c.pop.new.self h.taken c.pop.result h.bits c.pop.ensures;
    }

pub returns : goal.returns
returns g c =
    let h = c.loop-index.invariant in
    let w = g.Word.Natural.BITS in
    let n = g.Word.Natural.number c.args.bits in
    let count = taken_is w n c.room-2.result c.loop-index.rest h.taken h.bits c.room-2.ensures in
    let long : length (reverse h.taken) ≡ c.room-2.result = length-reverse h.taken ∙ sym count in
    let last : reverse h.taken ≡ bits_of c.room-2.result (n / 2 ^ (w - c.room-2.result)) = rw long at (last_bits c.loop-index.rest (reverse h.taken) w n h.bits) in
    let path = arrived c.args.nodes.now c.loop-index.index (tree_of_pairs c.args.nodes.now) h.tree h.taken c.requires.tree (omega (arith, c.loop-index-test.false)) h.leads h.at in
    record {
      some = omega (arith, count, h.some);
      part = omega (arith, count, h.few);
      is = path ∙ ap Some (sym (reverse-reverse h.taken) ∙ ap reverse last);
    }
