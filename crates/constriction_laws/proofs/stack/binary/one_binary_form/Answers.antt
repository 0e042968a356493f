use Rattle.constriction_base.proofs.OneAbove.{one_count}
use Rattle.constriction_laws.proofs.stack.binary.one_binary_form.Goals as goal

pub returns : goal.returns
returns c = λ w m n state. one_count w m n state.head
