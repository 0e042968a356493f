use Rattle.constriction_laws.proofs.of_stack.ByReads.{filled_words}
use Rattle.constriction_laws.proofs.stack.words.imports_are_words.Goals as goal

pub returns : goal.returns
returns g c = λ words w s head old new z fits law h.
    filled_words g.Word.Natural.number g.Backend.ReadWords.reads words w s head old new z fits law h
