use Rattle.std.proofs.Common.{sym, ◌∙◌}
use Rattle.std.proofs.lemmas.Bool.{false≢true}
use Rattle.constriction_chain.proofs.Ending.{goes_unless}
use Rattle.constriction_chain.proofs.coder.symbols.ChainCoderDecode.maybe_exhausted.Goals as goal

pub returns-else-maybe_exhausted-clause-goes_on : goal.returns-else-maybe_exhausted-clause-goes_on
returns-else-maybe_exhausted-clause-goes_on g c = rw (← c.self.view_is) (goes_unless g.Word.Natural.number g.C.Holds g.C.ReadWords g.R.Holds g.R.WriteWords
    g.R.WriteWords.is_lack_of_room g.Word.Natural.BITS g.State.Natural.BITS _ _
    c.maybe_full.result
    (λ after ended. false≢true (c.if-maybe_exhausted.ensures.ended after ended))
    c.maybe_full.ensures.room_left
    (λ not_full e lack fails. g.met.R.WriteWords.full_law _ e (sym c.maybe_full.ensures.value ∙ not_full) lack fails))
