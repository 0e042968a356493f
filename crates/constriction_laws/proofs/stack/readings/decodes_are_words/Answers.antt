use Rattle.constriction_laws.proofs.of_stack.ByReads.{decode_told, decodes_told}
use Rattle.constriction_laws.proofs.stack.readings.decodes_are_words.Goals as goal

pub returns-clause-one : goal.returns-clause-one
returns-clause-one g c = λ words w s model symbol old new law d.
    decode_told g.Word.Natural.number g.Backend.ReadWords.reads words w s
    (λ head new_head before after r. c.reads_are_words.ensures words w s head new_head before after law r) model symbol old new d

pub returns-clause-all : goal.returns-clause-all
returns-clause-all g c = λ words w s items old new law d.
    decodes_told g.Word.Natural.number g.Backend.ReadWords.reads words w s
    (λ head new_head before after r. c.reads_are_words.ensures words w s head new_head before after law r) items old new d
