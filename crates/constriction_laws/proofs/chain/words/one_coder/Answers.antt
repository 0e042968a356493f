use Rattle.constriction_laws.proofs.of_chain.ComingBack.{one_compressed, one_remainders}
use Rattle.constriction_laws.proofs.of_chain.OneBinary.{one_binary}
use Rattle.constriction_base.proofs.OneAbove.{one_count}
use Rattle.constriction_laws.proofs.chain.words.one_coder.Goals as goal

pub returns-clause-compressed : goal.returns-clause-compressed
returns-clause-compressed c = λ w s P words x y. one_compressed w s P words x y

pub returns-clause-binary : goal.returns-clause-binary
returns-clause-binary c = λ w s P words x y. one_binary w s P words x y

pub returns-clause-remainders : goal.returns-clause-remainders
returns-clause-remainders c = λ w s P words x y. one_remainders w s P words x y

pub returns-clause-form : goal.returns-clause-form
returns-clause-form c = λ w m n r. one_count w m n r
