use Rattle.constriction_calls.proofs.RangeAnswers.{seals_self}
use Rattle.constriction_calls.proofs.range.words.into_self_delimited.Goals as goal

pub returns : goal.returns
returns g c =
    record {
      call = seals_self g.Word.Natural.number g.State.Natural.number g.Word.Natural.BITS g.State.Natural.BITS _ _ c.into_compressed.result g.met.Word.Natural.number_law g.met.State.Natural.number_law
          c.requires.sizes c.requires.two_words c.into_compressed.ensures.call;
    }
