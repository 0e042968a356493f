use Rattle.constriction_stack.proofs.Pushing.{pushes_exist, pops_undo, pushes_undo, pushes_unique}
use Rattle.constriction_laws.proofs.stack.lists.lists_of_entries_undo.Goals as goal

pub returns-clause-pushes : goal.returns-clause-pushes
returns-clause-pushes c = λ w s steps old z hs v. pushes_exist w s z steps old hs v

pub returns-clause-only : goal.returns-clause-only
returns-clause-only c = λ w s steps old new other z hs i j. pushes_unique w s z steps old new other hs i j

pub returns-clause-pops_undo : goal.returns-clause-pops_undo
returns-clause-pops_undo c = λ w s steps old new i. pops_undo w s steps old new i

pub returns-clause-pushes_undo : goal.returns-clause-pushes_undo
returns-clause-pushes_undo c = λ w s steps old new z hs v t. pushes_undo w s z steps old new hs v t
