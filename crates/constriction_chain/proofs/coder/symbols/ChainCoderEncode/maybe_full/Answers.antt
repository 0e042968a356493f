use Rattle.std.proofs.Common.{sym, ◌∙◌}
use Rattle.std.proofs.lemmas.Bool.{false≢true}
use Rattle.constriction_chain.proofs.Ending.{has_room_unless}
use Rattle.constriction_chain.proofs.coder.symbols.ChainCoderEncode.maybe_full.Goals as goal

pub returns-else-maybe_exhausted-clause-room : goal.returns-else-maybe_exhausted-clause-room
returns-else-maybe_exhausted-clause-room g c = rw (← c.self.view_is) (has_room_unless g.Word.Natural.number g.C.Holds g.C.WriteWords g.R.Holds g.R.ReadWords
    g.C.WriteWords.is_lack_of_room g.Word.Natural.BITS g.State.Natural.BITS _
    c.maybe_full.result
    (λ after ended. false≢true (c.if-maybe_exhausted.ensures.ended after ended))
    c.maybe_full.ensures.room_left
    (λ not_full e lack fails. g.met.C.WriteWords.full_law _ e (sym c.maybe_full.ensures.value ∙ not_full) lack fails))
