use Rattle.constriction_stack.proofs.Pushing.{push_exists, push_unique}
use Rattle.constriction_laws.proofs.stack.steps.one_push.Goals as goal

pub returns-clause-exists : goal.returns-clause-exists
returns-clause-exists c = λ w s e state z h v. push_exists w s e z h state v

pub returns-clause-unique : goal.returns-clause-unique
returns-clause-unique c = λ w s e state new other z h i j. push_unique w s e z h state new other i j
