use Rattle.std.proofs.Common.{◌∙◌, sym, arith}
use Rattle.constriction_store.specs.Stores.{run_at}
use Rattle.constriction_store.proofs.Symbols.{another_behind, one_reading}
use Rattle.constriction_store.proofs.laws.one_chunk_at_entry.Goals as goal

pub returns-clause-one : goal.returns-clause-one
returns-clause-one c = λ w s model words entry symbols others m i j.
    one_reading w s words model symbols others (run_at entry) i.1.0 j.1.0 m (j.0 ∙ sym i.0) i.1.1 j.1.1

pub returns-clause-none_missing : goal.returns-clause-none_missing
returns-clause-none_missing c = λ w s model words entry symbols m held none.
    another_behind w s words model none.0 symbols (run_at entry) none.1 held.1.0 m (omega (arith, held.0, none.3)) none.2 held.1.1 none.4
