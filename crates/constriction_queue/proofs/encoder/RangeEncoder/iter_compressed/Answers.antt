use Rattle.std.specs.Prelude.{◌++◌, map}
use Rattle.std.proofs.Common.{ap, ◌∙◌}
use Rattle.constriction_queue.specs.Encoder.{flushed_in_order}
use Rattle.constriction_queue.proofs.Seals.{words_of_numbers}
use Rattle.constriction_queue.proofs.Showing.{behind_written, shown_is}
use Rattle.constriction_queue.proofs.encoder.RangeEncoder.iter_compressed.Goals as goal

pub returns : goal.returns
returns g c =
    let number = g.Word.Natural.number in
    let words = g.Backend.Holds.words c.self.inside.bulk in
    let seal = c.make_seal.result in
    let all = c.make_seal.ensures.words (map number words) (words_of_numbers number _ g.met.Word.Natural.number_law words) in
    rw (← c.self.view_is) record {
      lent = ap (λ ws. map number ws ++ flushed_in_order number seal.held seal.point seal.zero) c.words.ensures
          ∙ ap (λ ws. map number (g.Backend.Words.lent c.self.inside.bulk) ++ ws) (behind_written number seal.held seal.point seal.zero (map number words) _ all);
      words = λ order. ap (λ ws. map number ws ++ flushed_in_order number seal.held seal.point seal.zero) c.words.ensures
          ∙ shown_is number words (g.Backend.Words.lent c.self.inside.bulk) seal.held seal.point seal.zero _ order all;
    }
