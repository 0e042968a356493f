use Rattle.std.proofs.Common.{◌/◌, ◌≤◌, arith, length}
use Rattle.std.proofs.lemmas.List.{get_or_read_under}
use Rattle.constriction_symbol.specs.EncoderTree.{tree_of_parents}
use Rattle.constriction_symbol.proofs.Marked.{read_codeword}
use Rattle.constriction_symbol.proofs.huffman.encoder.EncoderHuffmanTreeEncoderCodebook.codeword_at_once.Goals as goal

pub returns : goal.returns
returns g c =
    let inside = c.self.inside in
    let climbs = c.self.invariant.0 in
    let have = c.self.invariant.1 in
    let within : c.args.symbol.now ≤ length inside.nodes.items / 2 = omega (arith, c.if-symbol-len.false, c.len.ensures) in
    let is = get_or_read_under inside.codewords.items c.args.symbol.now (length inside.nodes.items) c.index.result.now 0 c.index.ensures (omega (arith, within, climbs.some)) (omega (arith, have.len)) in
    rw (← c.self.view_is)
    (read_codeword g.Word.Natural.number g.Word.Natural.BITS c.args.symbol.now c.index.result.now inside.nodes.items inside.codewords.items (tree_of_parents inside.nodes.items) c.below_one.result climbs have within is c.below_one.ensures.some c.below_one.ensures.bits)
