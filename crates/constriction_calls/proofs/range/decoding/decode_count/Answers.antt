use Rattle.std.proofs.Common.{◌≡◌, ◌∙◌, ◌+◌, length, sym, ℕ, List, drop, get_or, arith}
use Rattle.constriction_base.specs.Models.{Model, IsModel, pairs_of}
use Rattle.constriction_inputs.proofs.Pairs.{pairs_left, pairs_next}
use Rattle.constriction_queue.proofs.ReadingOn.{finds_same, never_refused, next_found, one_more}
use Rattle.constriction_calls.proofs.range.decoding.decode_count.Goals as goal

pub returns-in-Err-clause-err : goal.returns-in-Err-clause-err
returns-in-Err-clause-err g c = λ words symbols old last at all count.
    let P = g.row.PRECISION in
    let own = λ (t : List (ℕ × ℕ × ℕ)). t in
    let tables = g.G.DecoderList.DecoderModelList.tables c.in-Some.list in
    let m = c.model.result.now in
    let placed = rw (c.select.ensures.place, c.select.ensures.tables, c.loop-i.invariant.tables) at c.model.ensures in
    let i = c.loop-i.i in
    let sized = g.met.G.DecoderList.Model.EntropyModel.sized m in
    let model : Model ℕ = record { precision = P; table = g.G.DecoderList.Model.EntropyModel.table m } in
    let lawful : IsModel g.Word.Natural.BITS model = record { some_bits = sized.0; within_word = omega (arith, sized.1, g.met.P.WordOf.width_law); lawful = g.G.DecoderList.Model.EntropyModel.lawful m } in
    let here = c.loop-i.invariant.left words symbols old last at (finds_same g.Word.Natural.BITS g.State.Natural.BITS words _ (pairs_of P own symbols tables) old last (c.in-Some.ensures.items symbols count) all) count in
    let next = pairs_left P own symbols tables i model.table (omega (arith, c.loop-i-test.true, count)) (omega (arith, c.loop-i-test.true, c.in-Some.ensures.count)) placed in
    never_refused _ g.Word.Natural.number _ _ g.Word.Natural.BITS g.State.Natural.BITS words tt model (get_or symbols i 0) (pairs_of P own (drop (i + 1) symbols) (drop (i + 1) tables)) here.0 last
    c.loop-i.decoder c.decode_symbol.new.self c.in-Err.field-0 _ (λ e. elim e [ ]) lawful here.1 (rw next at here.2) (λ h. h.1) c.in-Err.ensures.step

pub loop-i-preserved : goal.loop-i-preserved
loop-i-preserved g c =
    let number = g.Word.Natural.number in
    let w = g.Word.Natural.BITS in
    let s = g.State.Natural.BITS in
    let P = g.row.PRECISION in
    let tables = g.G.DecoderList.DecoderModelList.tables c.in-Some.list in
    let own = λ (t : List (ℕ × ℕ × ℕ)). t in
    let m = c.model.result.now in
    let placed = rw (c.select.ensures.place, c.select.ensures.tables, c.loop-i.invariant.tables) at c.model.ensures in
    let i = c.loop-i.i in
    let sized = g.met.G.DecoderList.Model.EntropyModel.sized m in
    let model : Model ℕ = record { precision = P; table = g.G.DecoderList.Model.EntropyModel.table m } in
    let lawful : IsModel w model = record { some_bits = sized.0; within_word = omega (arith, sized.1, g.met.P.WordOf.width_law); lawful = g.G.DecoderList.Model.EntropyModel.lawful m } in
    let l = c.loop-i.invariant in
    let d = c.loop-i.decoder in
    let new = c.decode_symbol.new.self in
    let xs = c.loop-i.again.items in
    let x = c.in-Ok-decode_symbol.symbol in
    record {
      counted = omega (arith, c.push_reserved.ensures.len, l.counted);
      capacity = omega (arith, c.push_reserved.ensures.capacity, l.capacity);
      tables = c.select.ensures.tables ∙ l.tables;
      taken = λ words old at. (
          let here = l.taken words old at in
          let next = pairs_next P own xs tables x model.table (omega (arith, l.counted, c.loop-i-test.true, c.in-Some.ensures.count)) (rw l.counted placed) in
          rw (c.push_reserved.ensures.items, next) (one_more _ number _ _ w s words tt model (pairs_of P own xs tables) x old here.0 d new here.1 here.2 c.in-Ok-decode_symbol.ensures.step)
          );
      left = λ words symbols old last at all count. (
          let here = l.left words symbols old last at all count in
          let next = pairs_left P own symbols tables i model.table (omega (arith, c.loop-i-test.true, count)) (omega (arith, c.loop-i-test.true, c.in-Some.ensures.count)) placed in
          next_found _ number _ _ w s words tt model (get_or symbols i 0) x (pairs_of P own (drop (i + 1) symbols) (drop (i + 1) tables)) here.0 last d new lawful here.1 (rw next at here.2) c.in-Ok-decode_symbol.ensures.step
          );
    }

pub returns-clause-decoded : goal.returns-clause-decoded
returns-clause-decoded g c = λ words old at.
    let all = c.loop-i.invariant.taken words old at in
    let counted : length c.loop-i.again.items ≡ c.args.count = omega (arith, c.loop-i.invariant.counted, c.loop-i-test.false) in
    (all.0, finds_same g.Word.Natural.BITS g.State.Natural.BITS words _ _ old all.0 (sym (c.in-Some.ensures.items c.loop-i.again.items counted)) all.1, all.2)
