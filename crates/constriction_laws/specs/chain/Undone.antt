-- Proofs that one encode and one decode of the chain coder undo each other, as the trait `StepsUndo` requires.
use Rattle.std.proofs.Common.{ℕ, ◌≤◌, ◌^◌, arith, sym, subst}
use Rattle.constriction_base.specs.Models.{Model}
use Rattle.constriction_base.specs.Steps.{Step}
use Rattle.constriction_base.proofs.Entries.{in_range}
use Rattle.constriction_chain.specs.Chain.{ChainState, IsChain, IsSized}
use Rattle.constriction_chain.specs.Symbols.{ChainDecodesOne, ChainEncodesOne, IsModelAt}
use Rattle.constriction_chain.proofs.Chains.{decode_from}
use Rattle.constriction_chain.proofs.Validity.{decoded_chain}

-- The sizes of a coder: words of w bits, remainders heads of s bits, and a precision of P bits.
pub record Sizes : Type 0 where
  pub w : ℕ
  pub s : ℕ
  pub P : ℕ
  pub are : IsSized w s P

-- A decode undoes an encode.
pub decode_back : {S : Type 0} (w s : ℕ) (model : Model S) (symbol : S) (old new : ChainState)
    → ChainEncodesOne w s model symbol old new → ChainDecodesOne w s model symbol new old
decode_back w s model symbol old new i = (i.0, i.1, i.2, i.3.back)

-- An encode undoes a decode from a valid state.
pub encode_back : {S : Type 0} (w s P : ℕ) (model : Model S) (symbol : S) (old new : ChainState) → IsSized w s P → IsModelAt P model
    → IsChain w s P old → ChainDecodesOne w s model symbol old new → ChainEncodesOne w s model symbol new old
encode_back w s P model symbol old new sized at chain (left, p, has, d) =
    let e : Step = record { precision = model.precision; left = left; p = p } in
    let here : IsChain w s model.precision old = subst (λ n. IsChain w s n old) (sym at.level) chain in
    let sizes : IsSized w s model.precision = subst (λ n. IsSized w s n) (sym at.level) sized in
    (left, p, has, record { chain = here; back = d; only = λ other ok i. decode_from w s e sizes.within_word new other old ok here i d })

-- A decode from a valid state leads to a valid state.
pub decoded_at : {S : Type 0} (w s P : ℕ) (model : Model S) (symbol : S) (old new : ChainState) → IsSized w s P → IsModelAt P model
    → IsChain w s P old → ChainDecodesOne w s model symbol old new → IsChain w s P new
decoded_at w s P model symbol old new sized at chain (left, p, has, d) =
    let e : Step = record { precision = model.precision; left = left; p = p } in
    let here : IsChain w s model.precision old = subst (λ n. IsChain w s n old) (sym at.level) chain in
    let sizes : IsSized w s model.precision = subst (λ n. IsSized w s n) (sym at.level) sized in
    let within = in_range 0 (2 ^ model.precision) model.table symbol left p at.lawful.follow has in
    let few : p ≤ 2 ^ model.precision = omega (arith, within.2) in
    subst (λ n. IsChain w s n new) at.level (decoded_chain w s e old new sizes few here d)
