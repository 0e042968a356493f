use Rattle.std.proofs.Common.{◌∙◌, ◌+◌, ◌-◌, ◌/◌, ap, arith, drop, length, map, sym}
use Rattle.std.proofs.lemmas.List.{length-map}
use Rattle.constriction_queue.proofs.ReadingOn.{rest_of}
use Rattle.constriction_calls.proofs.range.positions.from_compressed.Goals as goal

pub returns : goal.returns
returns g c =
    let words = map g.Word.Natural.number c.args.words.now in
    let at = rw c.new_at_write_beginning-cursor.ensures at (c.in-Ok.ensures.ok tt) in
    let e = c.decoder_parts.ensures in
    let rest = ap (λ n. drop n words) (e.pos ∙ (ap (λ n. n - length c.in-Ok.decoder.words) (sym (length-map c.args.words.now g.Word.Natural.number)) ∙ ap (λ ws. length words - length ws) at.rest_is)) ∙ rest_of (0 + g.State.Natural.BITS / g.Word.Natural.BITS) words in
    record { call = record { stands = record { lower_is = e.lower ∙ at.lower_is; range_is = e.range ∙ at.range_is; point_is = e.point ∙ at.point_is; rest_is = rest }; within = omega (arith, e.pos) } }
