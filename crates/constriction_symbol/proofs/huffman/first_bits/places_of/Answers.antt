use Rattle.std.proofs.Common.{◌≡◌, ◌<◌, ◌+◌, ◌*◌, ◌/◌, [], ◌∷◌, ◌++◌, ap, refl, subst, sym, arith, length, ◌∙◌}
use Rattle.std.proofs.lemmas.List.{get_or_read_under, length_push}
use Rattle.constriction_symbol.specs.DecoderTree.{LeadToNodes, LeadsToNode}
use Rattle.constriction_symbol.specs.declared.huffman.first_bits.ReachedNode.{ReachedNode}
use Rattle.constriction_symbol.proofs.FirstBits.{bits_below, first_places, place_more, table_size}
use Rattle.constriction_symbol.proofs.huffman.first_bits.places_of.Goals as goal

pub loop-number-init : goal.loop-number-init
loop-number-init c =
    let root : ReachedNode = record { index = 2 * length c.args.nodes.now; taken = 0 } in
    let one : c.push.new.self.items ≡ root ∷ [] = c.in_ok-push.ensures.items ∙ ap (λ xs. xs ++ root ∷ []) c.in_ok-places.ensures.items in
    let two : c.push-2.new.self.items ≡ root ∷ root ∷ [] = c.in_ok-push-2.ensures.items ∙ ap (λ xs. xs ++ root ∷ []) one in
    record {
      len = ap length two;
      some = omega arith;
      within = (table_size c.most_of-most.result c.most_of-most.ensures.some c.most_of-most.ensures.few).0;
      places = subst (LeadToNodes c.args.nodes.now) (sym two) (first_places c.args.nodes.now c.requires.tree);
    }

pub place_below-requires-clause-place : goal.place_below-requires-clause-place
place_below-requires-clause-place c =
    let i = c.loop-number.invariant in
    let half = c.loop-number.number / 2 in
    let size = (table_size c.most_of-most.result c.most_of-most.ensures.some c.most_of-most.ensures.few).1 in
    let below = bits_below 10 half (omega (arith, i.some)) (omega (arith, size, i.within)) in
    let low : half < length c.loop-number.places.items = omega (arith, i.len, i.some) in
    let read = get_or_read_under c.loop-number.places.items half (length c.loop-number.places.items) c.index.result.now (record { index = 0; taken = 0 }) c.index.ensures low refl in
    (below.0, omega (arith, below.1), subst (LeadsToNode c.args.nodes.now below.0) (sym read) (i.places half below.0 low below.2))

pub loop-number-preserved : goal.loop-number-preserved
loop-number-preserved c =
    let i = c.loop-number.invariant in
    let number = c.loop-number.number in
    let places = c.loop-number.places.items in
    let low : number / 2 < length places = omega (arith, i.len, i.some) in
    let read = get_or_read_under places (number / 2) (length places) c.index.result.now (record { index = 0; taken = 0 }) c.index.ensures low refl in
    let items = c.in_ok-push-3.ensures.items in
    record {
      len = ap length items ∙ (length_push places c.place_below.result ∙ ap (λ n. n + 1) i.len);
      some = omega (arith, i.some);
      within = omega (arith, c.loop-number-test.true);
      places = subst (LeadToNodes c.args.nodes.now) (sym items)
          (place_more c.args.nodes.now places c.place_below.result number (sym i.len) i.some i.places (λ bits is. c.place_below.ensures bits (subst (LeadsToNode c.args.nodes.now bits) (sym read) is)));
    }
