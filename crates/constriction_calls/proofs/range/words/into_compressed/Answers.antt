use Rattle.std.proofs.Common.{◌∙◌, ◌≡◌, ◌≤◌, ap, arith, length, refl, rules, sym}
use Rattle.constriction_queue.specs.Encoder.{run_by}
use Rattle.constriction_queue.specs.Range.{Run, sealed}
use Rattle.constriction_calls.specs.RangeCalls.{CanEncode, IsSealed, RangeBuffers, count_needed}
use Rattle.constriction_inputs.specs.declared.refusal.Refusal.TheVariants as refusals
use Rattle.constriction_calls.proofs.RangeAnswers.{count_is, seals_after, seals_room}
use Rattle.constriction_queue.proofs.Showing.{turned}
use Rattle.constriction_calls.proofs.range.words.into_compressed.Goals as goal

pub returns-then-count-buffer : goal.returns-then-count-buffer
returns-then-count-buffer g c =
    let number = g.Word.Natural.number in
    let state = g.State.Natural.number in
    let w = g.Word.Natural.BITS in
    let s = g.State.Natural.BITS in
    let old : RangeBuffers g.row.Word.Denot g.row.State.Denot = record { encoder = c.args.encoder.now; words = c.args.buffer.now; len = c.args.len.now } in
    let within : c.args.len.now ≤ length c.args.buffer.now = omega (arith, c.if-len-buffer.false) in
    let can : CanEncode number state w s c.args.encoder.now 0 = search rules in
    let first = run_by w s c.in-Some.made in
    let count = count_is number state w s old within can.is g.met.Word.Natural.number_law g.met.State.Natural.number_law c.requires first c.in-Some.ensures.run in
    let own : c.sealed_count-count.result ≡ length (sealed w s first) = c.sealed_count-count.ensures ∙ ap (λ (r : Run). length (sealed w s r)) (sym c.in-Some.ensures.run) in
    record {
      call = seals_room number state w s old within can.is (IsSealed w s) old refl (refusals.NoSpace c.saturating_add.result)
          (omega (arith, within, c.if-count-buffer.true, own, count), c.saturating_add.ensures ∙ ap count_needed (omega (arith, own, count)));
    }

pub returns-in-Ok : goal.returns-in-Ok
returns-in-Ok g c =
    let number = g.Word.Natural.number in
    let state = g.State.Natural.number in
    let w = g.Word.Natural.BITS in
    let s = g.State.Natural.BITS in
    let old : RangeBuffers g.row.Word.Denot g.row.State.Denot = record { encoder = c.args.encoder.now; words = c.args.buffer.now; len = c.args.len.now } in
    let within : c.args.len.now ≤ length c.args.buffer.now = omega (arith, c.if-len-buffer.false) in
    let can : CanEncode number state w s c.args.encoder.now 0 = search rules in
    let first = run_by w s c.in-Some.made in
    let own : c.sealed_count-count.result ≡ length (sealed w s first) = c.sealed_count-count.ensures ∙ ap (λ (r : Run). length (sealed w s r)) (sym c.in-Some.ensures.run) in
    let all = c.in-Ok.added.items in
    record {
      call = seals_after number state w s old within can.is g.met.Word.Natural.number_law g.met.State.Natural.number_law c.requires first c.in-Some.ensures.run
          all c.deref.result.now c.deref.ensures.value (sym (turned number all) ∙ c.in-Ok.ensures.ok) (omega (arith, own, c.if-count-buffer.false)) c.append.result c.append.new.buffer c.append.new.len
          c.append.ensures.ok c.append.ensures.err c.append.ensures.full c.append.ensures.kept;
    }

pub returns-in-Err : goal.returns-in-Err
returns-in-Err g c =
    let number = g.Word.Natural.number in
    let state = g.State.Natural.number in
    let w = g.Word.Natural.BITS in
    let s = g.State.Natural.BITS in
    let old : RangeBuffers g.row.Word.Denot g.row.State.Denot = record { encoder = c.args.encoder.now; words = c.args.buffer.now; len = c.args.len.now } in
    let within : c.args.len.now ≤ length c.args.buffer.now = omega (arith, c.if-len-buffer.false) in
    let can : CanEncode number state w s c.args.encoder.now 0 = search rules in
    let first = run_by w s c.in-Some.made in
    let count = count_is number state w s old within can.is g.met.Word.Natural.number_law g.met.State.Natural.number_law c.requires first c.in-Some.ensures.run in
    let own : c.sealed_count-count.result ≡ length (sealed w s first) = c.sealed_count-count.ensures ∙ ap (λ (r : Run). length (sealed w s r)) (sym c.in-Some.ensures.run) in
    record {
      call = seals_room number state w s old within can.is (IsSealed w s) old refl refusals.NoMemory (omega (arith, within, c.if-count-buffer.false, own, count));
    }
