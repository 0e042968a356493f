use Rattle.std.proofs.Common.{◌≡◌, ◌∙◌, [], ap, sym, pow_pos}
use Rattle.constriction_queue.proofs.StepCalls.{ended_of}
use Rattle.constriction_laws.proofs.of_queue.ListCalls.{none_mapped}
use Rattle.constriction_laws.proofs.queue.round_trips.coding.has_ended.Goals as goal

pub returns-then-maybe_exhausted-clause-ended : goal.returns-then-maybe_exhausted-clause-ended
returns-then-maybe_exhausted-clause-ended g c = λ words there at may.
    let ended = ended_of g.Word.Natural.BITS g.State.Natural.BITS words there c.args.decoder.now (pow_pos g.State.Natural.BITS) at may in
    let none = none_mapped g.Word.Natural.number _ (sym c.bulk.ensures.coder.words_are ∙ ended.0) in
    let known = g.met.Backend.BoundedReadWords.knows_words in
    let here : g.Backend.Holds.words c.bulk.result.now ≡ [] = ap g.Backend.Holds.words c.bulk.ensures.backend ∙ none in
    let seems = rw c.maybe_exhausted.ensures.value at (c.maybe_exhausted.ensures.exhausted known here) in
    c.maybe_exhausted-then-maybe_exhausted.ensures.value.1 (rw c.bulk.ensures.backend at seems, ended.1)

pub returns-else-maybe_exhausted-clause-ended : goal.returns-else-maybe_exhausted-clause-ended
returns-else-maybe_exhausted-clause-ended g c = λ words there at may.
    let ended = ended_of g.Word.Natural.BITS g.State.Natural.BITS words there c.args.decoder.now (pow_pos g.State.Natural.BITS) at may in
    let none = none_mapped g.Word.Natural.number _ (sym c.bulk.ensures.coder.words_are ∙ ended.0) in
    c.maybe_exhausted.ensures.exhausted g.met.Backend.BoundedReadWords.knows_words (ap g.Backend.Holds.words c.bulk.ensures.backend ∙ none)
