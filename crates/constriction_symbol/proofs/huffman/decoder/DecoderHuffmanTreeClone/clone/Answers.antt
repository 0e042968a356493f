use Rattle.std.proofs.Common.{rules, ◌≡◌}
use Rattle.std.proofs.lemmas.List.Elements.{same_from_all_zip}
use Rattle.constriction_symbol.proofs.huffman.decoder.DecoderHuffmanTreeClone.clone.Goals as goal

pub invariant_of-result : goal.invariant_of-result
invariant_of-result c =
    let nodes : c.in_ok-nodes.nodes.items ≡ c.self.inside.nodes.items = search (rules, same_from_all_zip) in
    let places : c.in_ok-places.places.items ≡ c.self.inside.places.items = search (rules, same_from_all_zip) in
    rw (nodes, places) c.self.invariant
