use Rattle.std.proofs.Common.{◌≡◌, ◌∙◌, ◌+◌, ◌-◌, ◌≤◌, List, ap, arith, drop, inr, map, length, rules, subst, sym, take}
use Rattle.std.proofs.lemmas.List.{drop-drop, length-drop, take_all}
use Rattle.constriction_queue.proofs.Seals.{words_of_numbers}
use Rattle.constriction_calls.specs.RangeCalls.{RangeBegins}
use Rattle.constriction_queue.proofs.ReadingOn.{sought_kept}
use Rattle.constriction_calls.proofs.range.positions.seek.Goals as goal
use Rattle.constriction_base.proofs.Guards.{map-drop}

pub returns : goal.returns
returns g c =
    let number = g.Word.Natural.number in
    let state = g.State.Natural.number in
    let w = g.Word.Natural.BITS in
    let s = g.State.Natural.BITS in
    let pos = c.args.pos in
    let words = map number c.args.words.now in
    let part = map number (drop pos c.args.words.now) in
    let begun = c.from_compressed-begun.result in
    let took : take (length c.args.words.now - pos) (drop pos c.args.words.now) ≡ drop pos c.args.words.now =
    take_all (length c.args.words.now - pos) (drop pos c.args.words.now) (omega (arith, length-drop pos c.args.words.now)) in
    let began = subst (λ (ws : List g.row.Word.Denot). RangeBegins number state w s ws begun) took c.from_compressed-begun.ensures.call in
    let law = g.met.Word.Natural.number_law in
    let rest : drop (pos + begun.pos) words ≡ drop begun.pos part =
    sym (ap (λ ws. drop begun.pos ws) (map-drop number pos c.args.words.now) ∙ drop-drop begun.pos pos words) in
    let within : pos ≤ length c.args.words.now = omega (arith, c.if-pos-words.false) in
    record {
      call = record {
        stands = λ there position. (
            let at = sought_kept w s words part (drop begun.pos part) there pos (state c.args.lower) (state c.args.range) (state begun.lower) (state begun.range) (state begun.point) c.requires
            (words_of_numbers number w law c.args.words.now) (words_of_numbers number w law (drop pos c.args.words.now)) position (map-drop number pos c.args.words.now) began.stands in
            record { lower_is = at.lower_is; range_is = at.range_is; point_is = at.point_is; rest_is = rest ∙ at.rest_is }
            );
        within = omega (arith, began.within, within, length-drop pos c.args.words.now);
        asked = inr (within, inr (search rules, tt));
        kept = tt;
      };
    }
