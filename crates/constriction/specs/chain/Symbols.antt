-- Decoding and encoding symbols on a chain coder's state, each symbol under its model.
pub use Rattle.constriction_chain.specs.Symbols.{ChainDecodesOne, ChainEncodesOne, ChainDecodesAll, ChainEncodesAll, IsModelAt, AreModelsAt}
