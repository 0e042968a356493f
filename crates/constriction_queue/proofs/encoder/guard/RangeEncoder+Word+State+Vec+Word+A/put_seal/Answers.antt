use Rattle.std.proofs.Common.{map, reverse, drop, length, arith, ap, ◌∙◌}
use Rattle.std.proofs.lemmas.Result.{err_from_is_err_and}
use Rattle.std.proofs.lemmas.List.{length-map}
use Rattle.constriction_queue.specs.Encoder.{flushed_of}
use Rattle.constriction_queue.proofs.Seals.{words_of_numbers, count_is}
use Rattle.constriction_queue.proofs.Encoders.{is_encoder}
use Rattle.constriction_queue.proofs.encoder.guard.RangeEncoder+Word+State+Vec+Word+A.put_seal.Goals as goal
use Rattle.std.proofs.Math.Seq.{drop-append_seam}

pub returns-clause-shows : goal.returns-clause-shows
returns-clause-shows g c =
    let number = g.Word.Natural.number in
    let words = reverse c.self.inside.bulk.items in
    rw (← c.self.view_is) (ap reverse c.in_ok-flush_words.ensures.words ∙ c.make_seal-seal.ensures.words (map number words) (words_of_numbers number _ g.met.Word.Natural.number_law words))

pub returns-clause-back : goal.returns-clause-back
returns-clause-back g c =
    let number = g.Word.Natural.number in
    let words = reverse c.self.inside.bulk.items in
    let seal = c.make_seal-seal.result in
    let owed = flushed_of number seal.held seal.point seal.zero in
    rw (← c.self.view_is, c.flushed_count-count.ensures) (ap (drop (length owed)) c.in_ok-flush_words.ensures.words ∙ drop-append_seam owed (map number words))

pub returns-in_err-flush_words-clause-room : goal.returns-in_err-flush_words-clause-room
returns-in_err-flush_words-clause-room g c =
    let number = g.Word.Natural.number in
    let words = reverse c.self.inside.bulk.items in
    let seal = c.make_seal-seal.result in
    let owed = flushed_of number seal.held seal.point seal.zero in
    let all = c.make_seal-seal.ensures.words (map number words) (words_of_numbers number _ g.met.Word.Natural.number_law words) in
    let count = count_is number owed words _ all in
    let len = length-map words number in
    let told = err_from_is_err_and c.from_residual.result c.from_residual.ensures.1 in
    rw (told.1, ← c.self.view_is) (omega (arith, c.in_err-flush_words.ensures.short, count, len))

pub returns-clause-coder : goal.returns-clause-coder
returns-clause-coder g c =
    is_encoder g.Word.Natural.number _ _ _ _ _ _ c.self.inside.situation c.self.invariant.0 c.self.invariant.1 c.self.inside.state.wide (g.met.State.Natural.number_law _) (g.met.State.Natural.number_law _)

pub returns-in_err-flush_words-clause-coder : goal.returns-in_err-flush_words-clause-coder
returns-in_err-flush_words-clause-coder g c =
    is_encoder g.Word.Natural.number _ _ _ _ _ _ c.self.inside.situation c.self.invariant.0 c.self.invariant.1 c.self.inside.state.wide (g.met.State.Natural.number_law _) (g.met.State.Natural.number_law _)
