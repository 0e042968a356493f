use Rattle.constriction_laws.proofs.of_chain.ComingBack.{binary_back, can_encode, compressed_back}
use Rattle.constriction_laws.proofs.chain.words.words_come_back.Goals as goal

pub returns-clause-encoded : goal.returns-clause-encoded
returns-clause-encoded g c = λ w s P below items x y sized at fit whole decoded. can_encode w s P sized below items x y at fit whole decoded

pub returns-clause-compressed : goal.returns-clause-compressed
returns-clause-compressed g c = λ w s P words below items x y z last sized at from decoded remainders encoded.
    compressed_back w s P sized words below items x y z last at from decoded remainders encoded

pub returns-clause-binary : goal.returns-clause-binary
returns-clause-binary g c = λ w s P words below items x y z last sized at from decoded remainders encoded.
    binary_back w s P sized words below items x y z last at from decoded remainders encoded
