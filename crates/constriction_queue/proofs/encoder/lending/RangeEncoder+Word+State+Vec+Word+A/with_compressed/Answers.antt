use Rattle.std.proofs.Common.{◌∙◌, ap, drop, map, refl, reverse, sym}
use Rattle.std.proofs.lemmas.List.{reverse-reverse}
use Rattle.constriction_base.proofs.Guards.{map-drop}
use Rattle.constriction_queue.specs.Encoder.{Encoder}
use Rattle.constriction_queue.proofs.Showing.{queue_is}
use Rattle.constriction_queue.proofs.encoder.lending.RangeEncoder+Word+State+Vec+Word+A.with_compressed.Goals as goal

pub f-answer-requires : goal.f-answer-requires
f-answer-requires g c =
    let items = c.self.inside.bulk.items in
    let shows = ap (λ (e : Encoder _). reverse e.words) c.self.view_is ∙ c.in_ok-count.ensures.shows in
    c.requires c.as_slice.result.now (rw c.as_slice.ensures.value (queue_is g.Word.Natural.number (reverse items) (sym (reverse-reverse items)) shows)) c.as_slice.result refl

pub returns-clause-called : goal.returns-clause-called
returns-clause-called g c =
    let items = c.self.inside.bulk.items in
    let shows = ap (λ (e : Encoder _). reverse e.words) c.self.view_is ∙ c.in_ok-count.ensures.shows in (
      c.as_slice.result.now,
      rw c.as_slice.ensures.value (queue_is g.Word.Natural.number (reverse items) (sym (reverse-reverse items)) shows),
      (c.as_slice.result, c.f-answer.ensures, refl),
    )

pub returns-clause-words : goal.returns-clause-words
returns-clause-words g c =
    let number = g.Word.Natural.number in
    let back = ap (λ (e : Encoder _). drop c.in_ok-count.count e.words) c.self.view_is ∙ c.in_ok-count.ensures.back in
    ap (map number) (c.take_back.ensures.words (λ old e new given. elim e [ ])) ∙ map-drop number c.in_ok-count.count (reverse c.self.inside.bulk.items) ∙ back
