use Rattle.std.proofs.Common.{◌≡◌, ◌+◌, ◌<◌, ◌∙◌, ℕ, arith, drop, get_or, take, length, sym, List, refl}
use Rattle.std.proofs.lemmas.List.{get_or-drop, length-drop, length-set, length-take-le, take_all, take_more_set}
use Rattle.constriction_base.specs.Models.{item_of, pairs_of}
use Rattle.constriction_base.proofs.Trace.{Trace-more}
use Rattle.constriction_stack.specs.Symbols.{Decodes}
use Rattle.constriction_stack.proofs.LaneWords.{lent_state}
use Rattle.constriction_inputs.proofs.Pairs.{pairs_next}
use Rattle.constriction_lanes.proofs.decoding.decode_row.Goals as goal

pub loop-place-preserved : goal.loop-place-preserved
loop-place-preserved g c =
    let P = g.row.PRECISION in
    let own = λ (t : List (ℕ × ℕ × ℕ)). t in
    let l = c.loop-place in
    let tables = g.L.DecoderModelList.tables c.args.models.now in
    let left = drop c.args.first tables in
    let table = g.L.Model.EntropyModel.table c.model.result.now in
    let there : table ≡ get_or tables (c.args.first + l.place) table = rw (c.select.ensures.place, c.select.ensures.tables, l.invariant.tables) at c.model.ensures in
    let at : table ≡ get_or left l.place table = there ∙ sym (get_or-drop c.args.first tables l.place table) in
    let x = c.decode_next.result in
    let before = take l.place l.symbols in
    let within : l.place < length l.symbols = omega (arith, c.loop-place-test.true, l.invariant.count) in
    let long : length before ≡ l.place = length-take-le l.place l.symbols (omega arith) in
    let room : length before < length left = omega (arith, length-drop c.args.first tables, within, l.invariant.count, c.requires.count) in
    record {
      decoded = rw (take_more_set l.symbols l.place x within, pairs_next P own before left x table room (rw long at))
          (Trace-more (λ item. Decodes g.Word.Natural.BITS g.State.Natural.BITS item.model item.symbol) (pairs_of P own before left) (item_of (record { precision = P; table = table }) x)
          _ l.coder.state c.decode_next.new.coder.state l.invariant.decoded c.decode_next.ensures.decoded);
      buffer = c.decode_next.ensures.buffer ∙ l.invariant.buffer;
      count = length-set l.symbols l.place x ∙ l.invariant.count;
      tables = c.select.ensures.tables ∙ l.invariant.tables;
    }

pub returns-clause-decoded : goal.returns-clause-decoded
returns-clause-decoded g c =
    let l = c.loop-place in
    let xs : take l.place l.symbols ≡ l.symbols = take_all l.place l.symbols (omega (arith, c.loop-place-test.false, l.invariant.count)) in
    let words = c.args.words.now in
    let number = g.Word.Natural.number in
    let first : c.new_at_write_end.result.buf.now ≡ take c.args.len words = rw c.new_at_write_end.ensures refl in
    let end : c.new_at_write_end.result.pos ≡ length (take c.args.len words) = rw c.new_at_write_end.ensures refl in
    let long : length (take c.args.len words) ≡ c.args.len = length-take-le c.args.len words c.requires.within in
    let from = c.from_raw_parts-coder.ensures.state
    ∙ lent_state number (g.State.Natural.number c.args.head) c.new_at_write_end.result.pos c.args.len c.args.len c.new_at_write_end.result.buf.now words first (rw (first, end) (omega arith)) (sym (end ∙ long)) in
    let last : c.into_raw_parts-cursor.result.0.buf.now ≡ take c.args.len words =
    rw (c.into_raw_parts-cursor.ensures.backend, l.invariant.buffer, c.from_raw_parts-coder.ensures.backend) first in
    let to = c.into_raw_parts-cursor.ensures.state
    ∙ lent_state number (g.State.Natural.number c.into_raw_parts-cursor.result.1) c.into_raw_parts-cursor.result.0.pos c.into_buf_and_pos-left.result.1 c.args.len c.into_raw_parts-cursor.result.0.buf.now words last
    c.into_buf_and_pos-left.ensures.within c.into_buf_and_pos-left.ensures.pos in
    rw (sym from, sym to) (rw xs at l.invariant.decoded)
