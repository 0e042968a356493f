use Rattle.std.proofs.Common.{[], ◌∷◌, ◌++◌, ◌≡◌, ◌<◌, ◌∙◌, ℕ, arith, take, length, sym, List, refl}
use Rattle.std.proofs.lemmas.List.{length-append, length-set, length-take-le, take_all, take_more_set}
use Rattle.constriction_base.specs.Models.{item_of, pairs_of}
use Rattle.constriction_base.proofs.Trace.{Trace-more}
use Rattle.constriction_stack.specs.Symbols.{Decodes}
use Rattle.constriction_inputs.proofs.Kept.{kept_more}
use Rattle.constriction_inputs.proofs.Pairs.{pairs_next}
use Rattle.constriction_calls.proofs.AnsAnswers.{lent_state}
use Rattle.constriction_calls.proofs.ans.decoding.decode_by.Goals as goal

pub loop-place-preserved : goal.loop-place-preserved
loop-place-preserved g c =
    let P = g.row.PRECISION in
    let own = λ (t : List (ℕ × ℕ × ℕ)). t in
    let l = c.loop-place in
    let tables = g.L.DecoderModelList.tables c.args.models.now in
    let at = rw (c.select.ensures.place, c.select.ensures.tables, l.invariant.tables) at c.model.ensures in
    let table = g.L.Model.EntropyModel.table c.model.result.now in
    let x = c.decode_next.result in
    let before = l.invariant.decoded in
    let within : l.place < length l.symbols = omega (arith, c.loop-place-test.true, l.invariant.count) in
    record {
      decoded = (
        before.0 ++ x ∷ [],
        omega (arith, length-append before.0 (x ∷ []), before.1),
        rw (take_more_set l.symbols l.place c.of.result within)
            (kept_more g.S.Symbol.numbers g.S.Symbol.kept g.S.Symbol.parts_law g.S.Symbol.kept_parts_law (take l.place l.symbols) c.of.result before.0 x before.2 c.of.ensures),
        rw (pairs_next P own before.0 tables x table (omega (arith, before.1, within, l.invariant.count, c.requires.count)) (rw before.1 at))
            (Trace-more (λ item. Decodes g.Word.Natural.BITS g.State.Natural.BITS item.model item.symbol) (pairs_of P own before.0 tables) (item_of (record { precision = P; table = table }) x)
            _ l.coder.state c.decode_next.new.coder.state before.3 c.decode_next.ensures.decoded),
      );
      buffer = c.decode_next.ensures.buffer ∙ l.invariant.buffer;
      count = length-set l.symbols l.place c.of.result ∙ l.invariant.count;
      tables = c.select.ensures.tables ∙ l.invariant.tables;
    }

pub returns-clause-decoded : goal.returns-clause-decoded
returns-clause-decoded g c =
    let l = c.loop-place in
    let xs : take l.place l.symbols ≡ l.symbols = take_all l.place l.symbols (omega (arith, c.loop-place-test.false, l.invariant.count)) in
    let words = c.args.words.now in
    let number = g.Word.Natural.number in
    let first : c.new_at_write_end-lent.result.buf.now ≡ take c.args.len.now words = rw c.new_at_write_end-lent.ensures refl in
    let end : c.new_at_write_end-lent.result.pos ≡ length (take c.args.len.now words) = rw c.new_at_write_end-lent.ensures refl in
    let long : length (take c.args.len.now words) ≡ c.args.len.now = length-take-le c.args.len.now words c.requires.within in
    let from = c.from_raw_parts-coder.ensures.state
    ∙ lent_state number (g.State.Natural.number c.args.head.now) c.new_at_write_end-lent.result.pos c.args.len.now c.args.len.now c.new_at_write_end-lent.result.buf.now words first (rw (first, end) (omega arith)) (sym (end ∙ long)) in
    let last : c.into_raw_parts-cursor.result.0.buf.now ≡ take c.args.len.now words =
    rw (c.into_raw_parts-cursor.ensures.backend, l.invariant.buffer, c.from_raw_parts-coder.ensures.backend) first in
    let to = c.into_raw_parts-cursor.ensures.state
    ∙ lent_state number (g.State.Natural.number c.into_raw_parts-cursor.result.1) c.into_raw_parts-cursor.result.0.pos c.into_buf_and_pos-left.result.1 c.args.len.now c.into_raw_parts-cursor.result.0.buf.now words last
    c.into_buf_and_pos-left.ensures.within c.into_buf_and_pos-left.ensures.pos in
    let all = l.invariant.decoded in
    (all.0, omega (arith, all.1, c.loop-place-test.false, l.invariant.count), rw xs at all.2, rw (sym from, sym to) all.3)
