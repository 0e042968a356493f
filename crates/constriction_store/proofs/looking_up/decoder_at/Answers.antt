use Rattle.std.proofs.Common.{◌≡◌, ◌∙◌, inl, inr, drop, length, map, mod-eq_of_lt, refl, sym, ap, arith}
use Rattle.std.specs.declared.convert.Infallible.{Infallible}
use Rattle.constriction_queue.specs.Range.{Run}
use Rattle.constriction_queue.specs.States.{IsPosition, lower_of, range_of}
use Rattle.constriction_queue.proofs.Beginning.{cursor_keeps}
use Rattle.constriction_queue.proofs.Seals.{words_of_numbers}
use Rattle.constriction_queue.proofs.Seeking.{sought_there}
use Rattle.constriction_store.specs.Stores.{run_from}
use Rattle.constriction_store.proofs.looking_up.decoder_at.Goals as goal

pub unreachable-requires : goal.unreachable-requires
unreachable-requires g c =
    let number = g.Word.Natural.number in
    let kept = cursor_keeps Infallible number (λ v. v.now) _ _ _ c.new_at_write_end.result c.in-Ok.decoder.bulk c.in-Ok.ensures.reads.2 in
    let same = ap (λ b. length b.now) (kept ∙ ap (λ cursor. cursor.buf) c.new_at_write_end.ensures) in
    elim c.in-Err-seek.ensures.err [
      | inl past ↦ omega (arith, past, same, c.requires.inside)
      | inr read ↦ elim read.2 [ ]
    ]

pub returns-clause-decoder : goal.returns-clause-decoder
returns-clause-decoder g c =
    let w = g.Word.Natural.BITS in
    let s = g.State.Natural.BITS in
    let number = g.Word.Natural.number in
    let items = c.args.words.now in
    let there : Run = run_from c.args.place (lower_of c.args.state) (range_of c.args.state) in
    let position : IsPosition s there c.args.place (lower_of c.args.state) (range_of c.args.state) =
    record { place_is = refl; lower_is = sym (mod-eq_of_lt (g.met.State.Natural.number_law _)); range_is = refl } in
    let kept = cursor_keeps Infallible number (λ v. v.now) _ _ _ c.new_at_write_end.result c.in-Ok.decoder.bulk c.in-Ok.ensures.reads.2 in
    let sought = c.in-Ok-seek.ensures.ok in
    let moved = sought.2.0 in
    let point = sought.2.2 tt in
    let part : drop moved.pos moved.buf.now ≡ drop c.args.place items =
    ap (λ b. drop b.pos b.buf.now) sought.2.1 ∙ ap (λ v. drop c.args.place v.now) (kept ∙ ap (λ cursor. cursor.buf) c.new_at_write_end.ensures) in
    sought_there number w s items (drop moved.pos moved.buf.now) (map number items) there _ _ _ c.seek.new.self c.requires.sizes (words_of_numbers number w g.met.Word.Natural.number_law items) refl position part
    sought.0 sought.1 point.0 (sought.3.words_are ∙ point.1)

pub returns-clause-buffer : goal.returns-clause-buffer
returns-clause-buffer g c =
    let number = g.Word.Natural.number in
    let sought = c.in-Ok-seek.ensures.ok in
    let kept = cursor_keeps Infallible number (λ v. v.now) _ _ _ c.new_at_write_end.result c.in-Ok.decoder.bulk c.in-Ok.ensures.reads.2 in
    let read = cursor_keeps Infallible number (λ v. v.now) _ _ _ sought.2.0 c.seek.new.self.bulk sought.2.3 in
    ap (λ v. v.now) read ∙ (ap (λ b. b.buf.now) sought.2.1 ∙ ap (λ v. v.now) (kept ∙ ap (λ cursor. cursor.buf) c.new_at_write_end.ensures))
