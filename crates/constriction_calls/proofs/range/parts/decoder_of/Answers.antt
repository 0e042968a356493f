use Rattle.std.proofs.Common.{◌≡◌, ◌∙◌, drop, map, rules}
use Rattle.constriction_calls.proofs.range.parts.decoder_of.Goals as goal
use Rattle.constriction_base.proofs.Guards.{map-drop}

pub returns-in-Ok-from_raw_parts-clause-read : goal.returns-in-Ok-from_raw_parts-clause-read
returns-in-Ok-from_raw_parts-clause-read g c =
    let d = c.in-Ok-from_raw_parts.decoder in
    let number = g.Word.Natural.number in
    let state = g.State.Natural.number in
    let lower : d.lower ≡ state c.args.parts.lower = search rules in
    let range : d.range ≡ state c.args.parts.range = search rules in
    let point : d.point ≡ state c.args.parts.point = search rules in
    let words : d.words ≡ map number (drop c.args.parts.pos c.args.words.now) = search rules in
    record { lower = lower; range = range; point = point; words = words ∙ map-drop number c.args.parts.pos c.args.words.now }
