use Rattle.std.proofs.Common.{map, refl}
use Rattle.std.proofs.lemmas.Result.{err_from_is_err_and}
use Rattle.constriction_base.proofs.Written.{not_written}
use Rattle.constriction_queue.specs.Encoder.{flushed_of}
use Rattle.constriction_queue.proofs.Encoders.{is_encoder}
use Rattle.constriction_queue.proofs.Seals.{words_of_numbers}
use Rattle.constriction_queue.proofs.encoder.RangeEncoder.into_compressed.Goals as goal

pub returns-clause-ok : goal.returns-clause-ok
returns-clause-ok g c =
    let number = g.Word.Natural.number in
    let words = g.Backend.Holds.words c.self.inside.bulk in
    rw (c.in_ok-flush_words.ensures.words, ← c.self.view_is)
    (c.make_seal-seal.ensures.words (map number words) (words_of_numbers number _ g.met.Word.Natural.number_law words))

pub returns-in_err-flush_words-clause-err : goal.returns-in_err-flush_words-clause-err
returns-in_err-flush_words-clause-err g c =
    let number = g.Word.Natural.number in
    let words = g.Backend.Holds.words c.self.inside.bulk in
    let seal = c.make_seal-seal.result in
    let all = c.make_seal-seal.ensures.words (map number words) (words_of_numbers number _ g.met.Word.Natural.number_law words) in
    let told = err_from_is_err_and c.from_residual.result c.from_residual.ensures.1 in
    rw (told.1, told.2, ← c.self.view_is) record {
      words_are = refl;
      owed = flushed_of number seal.held seal.point seal.zero;
      is = all;
      not_written = not_written number g.Backend.Holds g.Backend.WriteWords _ _ _ _ c.in_err-flush_words.ensures;
    }

pub returns-clause-coder : goal.returns-clause-coder
returns-clause-coder g c =
    rw (← c.self.view_is) (is_encoder g.Word.Natural.number g.Backend.Holds _ _ _ _ _ c.self.inside.situation c.self.invariant.0 c.self.invariant.1 c.self.inside.state.wide (g.met.State.Natural.number_law _) (g.met.State.Natural.number_law _))

pub returns-in_err-flush_words-clause-coder : goal.returns-in_err-flush_words-clause-coder
returns-in_err-flush_words-clause-coder g c =
    rw (← c.self.view_is) (is_encoder g.Word.Natural.number g.Backend.Holds _ _ _ _ _ c.self.inside.situation c.self.invariant.0 c.self.invariant.1 c.self.inside.state.wide (g.met.State.Natural.number_law _) (g.met.State.Natural.number_law _))
