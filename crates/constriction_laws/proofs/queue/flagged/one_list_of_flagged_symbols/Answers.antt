use Rattle.constriction_laws.proofs.of_queue.Flagging.{one_flagged}
use Rattle.constriction_laws.proofs.queue.flagged.one_list_of_flagged_symbols.Goals as goal

pub returns : goal.returns
returns c = λ w s flag first second words symbols others old new last m n same i j. one_flagged w flag first second m n s words symbols others old new last same i j
