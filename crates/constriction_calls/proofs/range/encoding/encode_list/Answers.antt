use Rattle.std.proofs.Common.{rules}
use Rattle.constriction_queue.specs.Encoder.{run_by}
use Rattle.constriction_calls.specs.RangeCalls.{CanEncode, RangeBuffers}
use Rattle.constriction_calls.proofs.RangeAnswers.{puts_ended}
use Rattle.constriction_calls.proofs.range.encoding.encode_list.Goals as goal

pub returns : goal.returns
returns g c =
    let number = g.Word.Natural.number in
    let state = g.State.Natural.number in
    let w = g.Word.Natural.BITS in
    let s = g.State.Natural.BITS in
    let old : RangeBuffers g.row.Word.Denot g.row.State.Denot = record { encoder = c.args.encoder.now; words = c.args.buffer.now; len = c.args.len.now } in
    let coded = g.I.Items.coded c.args.items.now in
    let count = g.I.Items.item_count c.args.items.now in
    let can : CanEncode number state w s c.args.encoder.now count = search rules in
    let made = c.in-Some-encode_to_list in
    let put = rw c.in-Some-list.ensures.items at made.ensures in
    let e = c.finish_encoding.ensures in
    let new = c.finish_encoding.new in
    record {
      call = puts_ended number state w s g.row.PRECISION coded count old c.requires.within c.requires.fit can (search rules) (run_by w s c.in-Some.made) c.in-Some.ensures.run made.now put.is
          made.words.items c.deref.result.now c.deref.ensures.value put.narrowed c.finish_encoding.result new.kept new.words new.len e.ok e.err e.full e.kept;
    }
