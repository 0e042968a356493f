use Rattle.std.proofs.Common.{◌≡◌, arith, length, refl}
use Rattle.std.proofs.lemmas.List.{take_all}
use Rattle.constriction_queue.specs.Encoder.{run_by}
use Rattle.constriction_calls.proofs.RangeSteps.{narrows_more}
use Rattle.constriction_inputs.proofs.Places.{is_step_at}
use Rattle.constriction_calls.proofs.range.encoding.encode_single.Goals as goal

pub encode_interval-requires-clause-step : goal.encode_interval-requires-clause-step
encode_interval-requires-clause-step g c =
    is_step_at g.Word.Natural.BITS g.row.PRECISION g.P.Natural.BITS (g.I.List.ItemList.list_items c.in_ok-list.list) 0 _ _ c.in_ok-found.ensures.found g.met.P.WordOf.width_law

pub returns-in-Ok-clause-narrowed : goal.returns-in-Ok-clause-narrowed
returns-in-Ok-clause-narrowed g c =
    let w = g.Word.Natural.BITS in
    let s = g.State.Natural.BITS in
    let list = g.I.List.ItemList.list_items c.in_ok-list.list in
    let first = run_by w s c.in_ok-encoder.encoder in
    let single : length list ≡ 1 = omega (arith, c.in_ok-list.ensures.count, c.count.ensures, c.if-count-ne1.false) in
    let all = narrows_more w s g.row.PRECISION g.P.Natural.BITS list 0 _ _ c.in_ok-found.ensures.found first first (run_by w s c.encode_interval.new.self) refl c.in-Ok.ensures.narrowed in
    record {
      narrowed = rw (c.into_buf_and_pos-words.ensures.buffer, c.into_buf_and_pos-words.ensures.pos)
          (rw (take_all 1 list (omega (arith, single)), c.in_ok-list.ensures.items, c.in_ok-encoder.ensures.run, c.parts_over-written.ensures.run) at all);
      is = c.parts_over-written.ensures.coder;
    }
