use Rattle.std.proofs.Common.{◌≡◌, ◌∙◌, ℕ, List, drop, length, map, refl, ap, arith, inl, inr}
use Rattle.std.proofs.lemmas.List.{length-map}
use Rattle.constriction_queue.specs.Decoder.{StandsAt}
use Rattle.constriction_queue.specs.Range.{Run}
use Rattle.constriction_queue.specs.States.{IsPosition, lower_of, range_of}
use Rattle.std.specs.declared.convert.Infallible.{Infallible}
use Rattle.constriction_queue.proofs.Beginning.{cursor_keeps}
use Rattle.constriction_queue.proofs.Seals.{words_of_numbers}
use Rattle.constriction_queue.proofs.Seeking.{sought_there}
use Rattle.constriction_laws.proofs.queue.round_trips.positions_of_pairs.pairs_from_position.Goals as goal

pub returns-in-Ok-decode_pairs-clause-read : goal.returns-in-Ok-decode_pairs-clause-read
returns-in-Ok-decode_pairs-clause-read g c = λ there is.
    let w = g.Word.Natural.BITS in
    let s = g.State.Natural.BITS in
    let number = g.Word.Natural.number in
    let items = c.args.words.items in
    let words : List ℕ = map number items in
    let fit = words_of_numbers number w g.met.Word.Natural.number_law items in
    let placed = c.in-Ok.ensures.place in
    let kept = cursor_keeps Infallible number (λ v. v.items) _ _ _ placed.0 c.in-Ok.decoder.bulk placed.2.2 in
    let sought = c.in-Ok-seek.ensures.ok in
    let moved = sought.2.0 in
    let point = sought.2.2 tt in
    let part : drop moved.pos moved.buf.items ≡ drop c.args.position.0 items =
    ap (λ b. drop b.pos b.buf.items) sought.2.1 ∙ ap (λ v. drop c.args.position.0 v.items) (kept ∙ placed.1.0) in
    let stands : (there : Run) → IsPosition s there c.args.position.0 (lower_of c.args.position.1) (range_of c.args.position.1) → StandsAt w s words there c.seek.new.self =
    λ there is. sought_there number w s items (drop moved.pos moved.buf.items) words there _ _ _ c.seek.new.self c.requires fit refl is part
    sought.0 sought.1 point.0 (sought.3.words_are ∙ point.1) in
    let read = c.in-Ok-decode_pairs.ensures.decoded tt words there (stands there is) in
    (read.0, read.1)

pub returns-in-Ok-decode_pairs-clause-back : goal.returns-in-Ok-decode_pairs-clause-back
returns-in-Ok-decode_pairs-clause-back g c = λ symbols there last is found count.
    let w = g.Word.Natural.BITS in
    let s = g.State.Natural.BITS in
    let number = g.Word.Natural.number in
    let items = c.args.words.items in
    let words : List ℕ = map number items in
    let fit = words_of_numbers number w g.met.Word.Natural.number_law items in
    let placed = c.in-Ok.ensures.place in
    let kept = cursor_keeps Infallible number (λ v. v.items) _ _ _ placed.0 c.in-Ok.decoder.bulk placed.2.2 in
    let sought = c.in-Ok-seek.ensures.ok in
    let moved = sought.2.0 in
    let point = sought.2.2 tt in
    let part : drop moved.pos moved.buf.items ≡ drop c.args.position.0 items =
    ap (λ b. drop b.pos b.buf.items) sought.2.1 ∙ ap (λ v. drop c.args.position.0 v.items) (kept ∙ placed.1.0) in
    let stands : (there : Run) → IsPosition s there c.args.position.0 (lower_of c.args.position.1) (range_of c.args.position.1) → StandsAt w s words there c.seek.new.self =
    λ there is. sought_there number w s items (drop moved.pos moved.buf.items) words there _ _ _ c.seek.new.self c.requires fit refl is part
    sought.0 sought.1 point.0 (sought.3.words_are ∙ point.1) in
    (c.in-Ok-decode_pairs.ensures.back tt words symbols there last (stands there is) found count).0

pub returns-in-Err-InvalidData-clause-err : goal.returns-in-Err-InvalidData-clause-err
returns-in-Err-InvalidData-clause-err g c = λ there is.
    let w = g.Word.Natural.BITS in
    let s = g.State.Natural.BITS in
    let number = g.Word.Natural.number in
    let items = c.args.words.items in
    let words : List ℕ = map number items in
    let fit = words_of_numbers number w g.met.Word.Natural.number_law items in
    let placed = c.in-Ok.ensures.place in
    let kept = cursor_keeps Infallible number (λ v. v.items) _ _ _ placed.0 c.in-Ok.decoder.bulk placed.2.2 in
    let sought = c.in-Ok-seek.ensures.ok in
    let moved = sought.2.0 in
    let point = sought.2.2 tt in
    let part : drop moved.pos moved.buf.items ≡ drop c.args.position.0 items =
    ap (λ b. drop b.pos b.buf.items) sought.2.1 ∙ ap (λ v. drop c.args.position.0 v.items) (kept ∙ placed.1.0) in
    let stands : (there : Run) → IsPosition s there c.args.position.0 (lower_of c.args.position.1) (range_of c.args.position.1) → StandsAt w s words there c.seek.new.self =
    λ there is. sought_there number w s items (drop moved.pos moved.buf.items) words there _ _ _ c.seek.new.self c.requires fit refl is part
    sought.0 sought.1 point.0 (sought.3.words_are ∙ point.1) in
    let none = rw c.in-Err-InvalidData.field-0-is at c.in-Err-InvalidData.ensures.err in
    none tt words there (stands there is)

pub returns-in-Ok-decode_pairs-clause-place : goal.returns-in-Ok-decode_pairs-clause-place
returns-in-Ok-decode_pairs-clause-place g c =
    let items = c.args.words.items in
    let placed = c.in-Ok.ensures.place in
    let kept = cursor_keeps Infallible g.Word.Natural.number (λ v. v.items) _ _ _ placed.0 c.in-Ok.decoder.bulk placed.2.2 in
    let whole : length c.in-Ok.decoder.bulk.buf.items ≡ length items = ap (λ v. length v.items) (kept ∙ placed.1.0) in
    omega (arith, whole, c.in-Ok-seek.ensures.variant refl)

pub returns-in-Err-seek-clause-err : goal.returns-in-Err-seek-clause-err
returns-in-Err-seek-clause-err g c =
    let items = c.args.words.items in
    let placed = c.in-Ok.ensures.place in
    let kept = cursor_keeps Infallible g.Word.Natural.number (λ v. v.items) _ _ _ placed.0 c.in-Ok.decoder.bulk placed.2.2 in
    let whole : length c.in-Ok.decoder.bulk.buf.items ≡ length items = ap (λ v. length v.items) (kept ∙ placed.1.0) in
    elim c.in-Err-seek.ensures.err [
      | inl short ↦ omega (arith, short, whole, length-map items g.Word.Natural.number)
      | inr refused ↦ elim refused.2 [ ]
    ]
