use Rattle.std.proofs.Common.{◌≡◌, ◌∙◌, [], ap, arith, length, min}
use Rattle.constriction_queue.specs.Range.{Run, sealed}
use Rattle.constriction_calls.specs.RangeCalls.{run_of_parts}
use Rattle.constriction_calls.proofs.RangeBuffers.{short_count}
use Rattle.constriction_calls.proofs.range.words.sealed_count.Goals as goal

pub returns : goal.returns
returns g c =
    let number = g.Word.Natural.number in
    let state = g.State.Natural.number in
    let w = g.Word.Natural.BITS in
    let s = g.State.Natural.BITS in
    let parts = c.args.parts in
    let least : c.min-held.result ≡ min parts.held 1 = c.min-held.ensures in
    let counted : c.num_words.result ≡ length (sealed w s (run_of_parts number state w s (record { lower = parts.lower; range = parts.range; held = c.min-held.result; first = parts.first }) [])) =
    c.num_words.ensures ∙ ap (λ (r : Run). length (sealed w s r)) c.in-Some.ensures.run in
    let same = ap (λ held. length (sealed w s (run_of_parts number state w s (record { lower = parts.lower; range = parts.range; held = held; first = parts.first }) []))) least in
    omega (arith, counted, same, least, short_count number state w s parts c.requires.kept (omega (arith, c.requires.sizes.two_words)))
