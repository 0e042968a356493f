use Rattle.constriction_store.specs.Stores.{run_at}
use Rattle.constriction_store.proofs.Windows.{found_in_others}
use Rattle.constriction_store.proofs.laws.other_words_are_not_read.Goals as goal

pub returns : goal.returns
returns c = λ w s model words others entry symbols last z fit fit' found agree.
    found_in_others w s words others z fit fit' model symbols (run_at entry) last found agree
