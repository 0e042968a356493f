use Rattle.std.proofs.Common.{◌≤◌, arith, length, sym}
use Rattle.constriction_calls.specs.AnsCalls.{AnsBuffers}
use Rattle.constriction_calls.proofs.AnsAnswers.{puts_ended}
use Rattle.constriction_inputs.proofs.Asking.{fit_ok}
use Rattle.constriction_calls.proofs.ans.encoding.encode_reverse.Goals as goal

pub returns-in-Some-encode_single_item : goal.returns-in-Some-encode_single_item
returns-in-Some-encode_single_item g c =
    let coded = g.I.Items.coded c.args.items.now in
    let within : c.args.len.now ≤ length c.args.words.now = omega (arith, c.if-len-words.false) in
    let old : AnsBuffers g.row.Word.Denot g.row.State.Denot = record { head = c.args.head.now; words = c.args.words.now; len = c.args.len.now } in
    let made = c.in-Some-encode_single_item in
    let ended = c.finish_encoding.ensures in
    let new = c.finish_encoding.new in
    record {
      call = puts_ended g.Word.Natural.number g.State.Natural.number g.Word.Natural.BITS g.State.Natural.BITS g.row.PRECISION coded old within (fit_ok g.row.PRECISION coded c.in_ok-check.ensures)
          c.requires.sizes _ (sym c.in-Some.ensures.items) made.ensures.models made.added.now c.encode_single_item.new.head made.ensures.coded _ c.finish_encoding.result new.kept new.words new.len
          ended.ok ended.err ended.full ended.kept;
    }

pub returns-in-Some-encode_items : goal.returns-in-Some-encode_items
returns-in-Some-encode_items g c =
    let coded = g.I.Items.coded c.args.items.now in
    let within : c.args.len.now ≤ length c.args.words.now = omega (arith, c.if-len-words.false) in
    let old : AnsBuffers g.row.Word.Denot g.row.State.Denot = record { head = c.args.head.now; words = c.args.words.now; len = c.args.len.now } in
    let made = c.in-Some-encode_items in
    let call = c.finish_encoding-in-Some-encode_items in
    let ended = rw c.deref.ensures.value at call.ensures in
    record {
      call = puts_ended g.Word.Natural.number g.State.Natural.number g.Word.Natural.BITS g.State.Natural.BITS g.row.PRECISION coded old within (fit_ok g.row.PRECISION coded c.in_ok-check.ensures)
          c.requires.sizes _ (sym c.in-Some.ensures.items) made.ensures.models made.added.items made.new_head made.ensures.coded _ call.result call.new.kept call.new.words call.new.len
          ended.ok ended.err ended.full ended.kept;
    }
