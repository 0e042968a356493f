-- The states of a chain coder, its steps, and changes of its precision.
pub use Rattle.constriction_chain.specs.Chain.{IsSized, ChainState, least, IsRemaindersHead, IsChain, IsBroughtBelow, IsDecode, IsEncode, IsPrecisionChange, ChainValue, value_of, at_heads, IsChainCoder}
