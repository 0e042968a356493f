use Rattle.std.proofs.Common.{refl}
use Rattle.constriction_stack.specs.Ans.{pop}
use Rattle.constriction_stack.proofs.Pushing.{push_unique, valid_pop}
use Rattle.constriction_laws.proofs.stack.steps.pushes_and_pops_undo.Goals as goal

pub returns-clause-pop_undoes : goal.returns-clause-pop_undoes
returns-clause-pop_undoes c = λ w s e state new i. (i.holds, i.back)

pub returns-clause-push_undoes : goal.returns-clause-push_undoes
returns-clause-push_undoes c = λ w s e state new z h v t i.
    push_unique w s e z h (pop w s e state) new state i record { valid = v; holds = t; back = refl }

pub returns-clause-valid : goal.returns-clause-valid
returns-clause-valid c = λ w s e state z h v t. valid_pop w s e z h state v t
