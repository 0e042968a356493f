use Rattle.std.proofs.Common.{◌∙◌, ◌-◌, ◌/◌, arith, get_or, length}
use Rattle.std.proofs.lemmas.List.{get_or-set_other, get_or_read_under, length-set}
use Rattle.constriction_symbol.proofs.Climbing.{parent_above, parent_within}
use Rattle.constriction_symbol.proofs.Marked.{numbered_kept, numbered_root, numbered_set, numbered_step}
use Rattle.constriction_symbol.proofs.huffman.codewords.codewords_of.Goals as goal

pub loop-index-preserved-then-entry-ne0 : goal.loop-index-preserved-then-entry-ne0
loop-index-preserved-then-entry-ne0 c =
    let h = c.loop-index.invariant in
    let nodes = c.args.nodes.now in
    let index = c.loop-index.index - 1 in
    let within = parent_within nodes index c.requires.rising c.if-entry-ne0.true in
    let above = get_or_read_under c.loop-index.codewords.items (get_or nodes index 0 / 2) (length nodes) c.index.result.now 0 c.index.ensures within (omega (arith, h.len)) in
    let parent = h.each (get_or nodes index 0 / 2) (omega (arith, parent_above nodes index c.requires.rising c.if-entry-ne0.true)) within in
    let here = numbered_step nodes index c.index.result.now c.codeword_below.result c.requires.rising c.if-entry-ne0.true (rw above parent) c.codeword_below.ensures in
    record {
      len = length-set _ _ _ ∙ h.len;
      within = omega (arith, h.within);
      unset = λ i low. get_or-set_other c.loop-index.codewords.items index i c.codeword_below.result 0 (λ same. omega (arith, same, low)) ∙ h.unset i (omega (arith, low));
      each = numbered_set nodes c.loop-index.codewords.items index c.codeword_below.result h.len (omega (arith, h.within, c.loop-index-test.true)) (λ i from low. h.each i (omega (arith, from)) low) here;
    }

pub loop-index-preserved : goal.loop-index-preserved
loop-index-preserved c =
    let h = c.loop-index.invariant in
    let index = c.loop-index.index - 1 in
    let here = numbered_root c.args.nodes.now index (get_or c.loop-index.codewords.items index 0) c.if-entry-ne0.false (h.unset index (omega (arith, c.loop-index-test.true))) in
    record {
      len = h.len;
      within = omega (arith, h.within);
      unset = λ i low. h.unset i (omega (arith, low));
      each = numbered_kept c.args.nodes.now c.loop-index.codewords.items index (λ i from low. h.each i (omega (arith, from)) low) here;
    }
