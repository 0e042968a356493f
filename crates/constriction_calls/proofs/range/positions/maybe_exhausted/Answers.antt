use Rattle.std.proofs.Common.{◌∙◌, ◌≤◌, ap, arith, drop, inr, length, map, pow_pos, rules, sym}
use Rattle.std.proofs.lemmas.List.{length-map}
use Rattle.constriction_queue.proofs.ReadingOn.{as_number, may_end}
use Rattle.constriction_calls.proofs.RangeSteps.{stands_read}
use Rattle.constriction_calls.proofs.range.positions.maybe_exhausted.Goals as goal

pub returns : goal.returns
returns g c =
    let number = g.Word.Natural.number in
    let state = g.State.Natural.number in
    let w = g.Word.Natural.BITS in
    let s = g.State.Natural.BITS in
    let buffer = map number c.args.words.now in
    let d = c.in-Some.reading in
    let within : c.args.decoder.now.pos ≤ length c.args.words.now = omega (arith, c.if-decoder-words.false) in
    let inside : c.args.decoder.now.pos ≤ length buffer = omega (arith, within, length-map c.args.words.now number) in
    let told = as_number c.maybe_exhausted.result c.from.result c.from.ensures in
    record {
      call = record {
        ended = λ words there at. (
            let may = may_end w s buffer words there d d.bulk.pos (length d.bulk.buf.now) c.maybe_exhausted.result (pow_pos s) (stands_read state w s buffer words there c.args.decoder.now d at c.in-Some.ensures.read)
            (c.in-Some.ensures.read.words ∙ ap (λ n. drop n buffer) (sym c.in-Some.ensures.cursor.0))
            (omega (arith, c.in-Some.ensures.cursor.0, inside))
            (ap length c.in-Some.ensures.cursor.1 ∙ sym (length-map c.args.words.now number))
            c.maybe_exhausted.ensures.value in
            (λ one. may.0 (told.0.0 one), λ ends. told.0.1 (may.1 ends))
            );
        one_or_none = told.1;
        asked = inr (inside, inr (search rules, tt));
        kept = tt;
      };
    }
