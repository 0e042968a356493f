-- One step of a chain coder and the opposite one.
use Rattle.std.proofs.Common.{◌≡◌, ℕ, [], ◌∷◌, refl}
use Rattle.constriction_base.specs.Models.{Model, item_of}
use Rattle.constriction_chain.specs.Chain.{ChainState, IsChain, IsSized}
use Rattle.constriction_chain.specs.Symbols.{IsModelAt, ChainEncodesOne, ChainDecodesOne}
use Rattle.constriction_laws.specs.chain.Undone.{encode_back}
use Rattle.constriction_laws.proofs.of_chain.ComingBack.{encodes_unique}

pub stays : {S : Type 0} (w s P : ℕ) (model : Model S) (symbol : S) (x y z : ChainState) → IsSized w s P → IsModelAt P model → IsChain w s P x
    → ChainDecodesOne w s model symbol x y → ChainEncodesOne w s model symbol y z → z ≡ x
stays w s P model symbol x y z sized at chain d e =
    encodes_unique w s P (item_of model symbol ∷ []) y z x (at, tt) (z, e, refl) (x, encode_back w s P model symbol x y sized at chain d, refl)
