use Rattle.std.proofs.Common.{◌+◌, ◌≤◌, [], arith, length, refl}
use Rattle.constriction_calls.specs.RangeCalls.{RangeBuffers, run_of_parts}
use Rattle.constriction_inputs.proofs.Asking.{fit_ok}
use Rattle.constriction_calls.proofs.RangeAnswers.{puts_ended}
use Rattle.constriction_calls.proofs.range.encoding.encode.Goals as goal

pub returns-in-Some : goal.returns-in-Some
returns-in-Some g c =
    let number = g.Word.Natural.number in
    let state = g.State.Natural.number in
    let w = g.Word.Natural.BITS in
    let s = g.State.Natural.BITS in
    let coded = g.I.Items.coded c.args.items.now in
    let count = g.I.Items.item_count c.args.items.now in
    let old : RangeBuffers g.row.Word.Denot g.row.State.Denot = record { encoder = c.args.encoder.now; words = c.args.buffer.now; len = c.args.len.now } in
    let within : c.args.len.now ≤ length c.args.buffer.now = omega (arith, c.if-len-buffer.false) in
    let room : c.args.len.now + c.args.encoder.now.held ≤ length c.args.buffer.now = omega (arith, within, c.if-encoder-buffer.true) in
    let made = c.in-Some in
    let e = c.finish_encoding.ensures in
    let new = c.finish_encoding.new in
    record {
      call = puts_ended number state w s g.row.PRECISION coded count old within (fit_ok g.row.PRECISION coded c.in_ok-check.ensures) made.ensures.can room (run_of_parts number state w s c.args.encoder.now []) refl made.now
          made.ensures.narrowed.is made.words.now made.words.now refl made.ensures.narrowed.narrowed c.finish_encoding.result new.kept new.words new.len e.ok e.err e.full e.kept;
    }
