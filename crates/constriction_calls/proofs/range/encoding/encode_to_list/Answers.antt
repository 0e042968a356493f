use Rattle.std.proofs.Common.{◌∙◌, arith}
use Rattle.std.proofs.lemmas.List.{take_all}
use Rattle.constriction_queue.specs.Encoder.{run_by}
use Rattle.constriction_calls.proofs.RangeSteps.{narrows_more}
use Rattle.constriction_inputs.proofs.Places.{is_step_at}
use Rattle.constriction_calls.proofs.range.encoding.encode_to_list.Goals as goal

pub encode_interval-requires-clause-step : goal.encode_interval-requires-clause-step
encode_interval-requires-clause-step g c =
    is_step_at g.Word.Natural.BITS g.row.PRECISION g.P.Natural.BITS (g.L.ItemList.list_items c.args.list.now) c.loop-i.i _ _ (rw c.loop-i.invariant.items at c.in_ok-found.ensures.found) g.met.P.WordOf.width_law

pub encode_interval-requires-clause-symbols_left : goal.encode_interval-requires-clause-symbols_left
encode_interval-requires-clause-symbols_left g c =
    omega (arith, c.loop-i.invariant.left, c.loop-i-test.true, c.loop-i.auto.i-end, c.count-i-end.ensures)

pub loop-i-preserved : goal.loop-i-preserved
loop-i-preserved g c =
    let w = g.Word.Natural.BITS in
    let s = g.State.Natural.BITS in
    let items = g.L.ItemList.list_items c.args.list.now in
    let kept = c.loop-i.invariant in
    let call = c.in-Ok.ensures in
    record {
      items = c.in_ok-found.ensures.items ∙ kept.items;
      left = omega (arith, kept.left, call.held);
      narrowed = narrows_more w s g.row.PRECISION g.P.Natural.BITS items c.loop-i.i _ _ (rw kept.items at c.in_ok-found.ensures.found) (run_by w s c.args.encoder) (run_by w s c.loop-i.encoder) (run_by w s c.encode_interval.new.self) kept.narrowed call.narrowed;
    }

pub returns : goal.returns
returns g c =
    record {
      narrowed = rw c.parts_over.ensures.run at (rw (take_all c.loop-i.i (g.L.ItemList.list_items c.args.list.now) (omega (arith, c.loop-i-test.false, c.loop-i.auto.i-end, c.count-i-end.ensures))) at c.loop-i.invariant.narrowed);
      is = c.parts_over.ensures.coder;
    }
