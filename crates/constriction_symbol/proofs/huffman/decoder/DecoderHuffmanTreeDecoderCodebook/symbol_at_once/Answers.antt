use Rattle.std.proofs.Common.{arith}
use Rattle.constriction_symbol.proofs.FirstBits.{top_begins}
use Rattle.constriction_symbol.proofs.huffman.decoder.DecoderHuffmanTreeDecoderCodebook.symbol_at_once.Goals as goal

pub returns-then-place-len : goal.returns-then-place-len
returns-then-place-len g c =
    let nodes = c.self.inside.nodes.items in
    let place = c.place_of-place.result in
    let at = c.place_of-place.ensures nodes (rw c.deref.ensures.value c.self.invariant.1) in
    rw (← c.self.view_is)
    (top_begins nodes g.Word.Natural.BITS c.args.count (g.Word.Natural.number c.args.bits) place.index place.taken c.self.invariant.0 (omega (arith, c.if-place-len.true, c.len.ensures)) (omega (arith, c.if-place-eq0.false)) (omega (arith, c.if-place-count.false)) at.1)

pub walk_on-requires-clause-place : goal.walk_on-requires-clause-place
walk_on-requires-clause-place g c =
    rw c.deref-2.ensures.value ((c.place_of-place.ensures c.self.inside.nodes.items (rw c.deref.ensures.value c.self.invariant.1)).1)
