use Rattle.std.proofs.Common.{◌-◌, ◌^◌, Some, length, sym, ◌∙◌, ap}
use Rattle.std.proofs.lemmas.List.{map-id}
use Rattle.constriction_symbol.specs.Huffman.{huffman, leaves, path}
use Rattle.constriction_commands.specs.Lines.{numbers_of}
use Rattle.constriction_commands.proofs.TreeTexts.{same_line}
use Rattle.constriction_commands.proofs.commands.huffman.answer.Goals as goal

pub returns-clause-ok : goal.returns-clause-ok
returns-clause-ok c =
    let weights = c.in_ok-weights.weights.items in
    let tree = c.in_ok-tree.tree in
    let made = rw c.as_slice.ensures.value at c.in_ok-tree.ensures.ok in
    record {
      weights = weights;
      weights_line = ap (numbers_of (2 ^ 64 - 1)) (sym c.split_line.ensures.first) ∙ c.in_ok-weights.ensures.ok ∙ ap Some (map-id weights);
      printed = c.in_ok-line.ensures ∙ same_line (length (leaves tree)) (length weights) (path tree) (huffman weights) made.0 made.1;
    }
