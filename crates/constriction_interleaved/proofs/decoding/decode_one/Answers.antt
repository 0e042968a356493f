use Rattle.std.proofs.Common.{◌≡◌, ◌∙◌, ℕ, arith, take, length, sym, refl}
use Rattle.std.proofs.lemmas.List.{length-set, length-take-le, take_all}
use Rattle.constriction_base.specs.Models.{Model}
use Rattle.constriction_interleaved.proofs.LaneTurns.{one_more}
use Rattle.constriction_stack.proofs.LaneWords.{lent_state}
use Rattle.constriction_interleaved.proofs.decoding.decode_one.Goals as goal

pub loop-place-preserved : goal.loop-place-preserved
loop-place-preserved g c =
    let l = c.loop-place in
    let model : Model ℕ = record { precision = g.row.PRECISION; table = g.M.EntropyModel.table c.args.model.now } in
    record {
      decoded = one_more g.Word.Natural.BITS g.State.Natural.BITS model l.symbols l.place c.decode_next.result _ _ _ (omega (arith, c.loop-place-test.true, l.invariant.count)) l.invariant.decoded c.decode_next.ensures.decoded;
      buffer = c.decode_next.ensures.buffer ∙ l.invariant.buffer;
      count = length-set l.symbols l.place c.decode_next.result ∙ l.invariant.count;
    }

pub returns-clause-decoded : goal.returns-clause-decoded
returns-clause-decoded g c =
    let l = c.loop-place in
    let xs : take l.place l.symbols ≡ l.symbols = take_all l.place l.symbols (omega (arith, c.loop-place-test.false, l.invariant.count)) in
    let words = c.args.words.now in
    let number = g.Word.Natural.number in
    let first : c.new_at_write_end.result.buf.now ≡ take c.args.len words = rw c.new_at_write_end.ensures refl in
    let end : c.new_at_write_end.result.pos ≡ length (take c.args.len words) = rw c.new_at_write_end.ensures refl in
    let long : length (take c.args.len words) ≡ c.args.len = length-take-le c.args.len words c.requires.within in
    let from = c.from_raw_parts-coder.ensures.state
    ∙ lent_state number (g.State.Natural.number c.args.head) c.new_at_write_end.result.pos c.args.len c.args.len c.new_at_write_end.result.buf.now words first (rw (first, end) (omega arith)) (sym (end ∙ long)) in
    let last : c.into_raw_parts-cursor.result.0.buf.now ≡ take c.args.len words =
    rw (c.into_raw_parts-cursor.ensures.backend, l.invariant.buffer, c.from_raw_parts-coder.ensures.backend) first in
    let to = c.into_raw_parts-cursor.ensures.state
    ∙ lent_state number (g.State.Natural.number c.into_raw_parts-cursor.result.1) c.into_raw_parts-cursor.result.0.pos c.into_buf_and_pos-left.result.1 c.args.len c.into_raw_parts-cursor.result.0.buf.now words last
    c.into_buf_and_pos-left.ensures.within c.into_buf_and_pos-left.ensures.pos in
    rw (sym from, sym to) (rw xs at l.invariant.decoded)
