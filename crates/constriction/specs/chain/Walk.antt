-- The quantiles of a chain coder, as a walk over bits.
pub use Rattle.constriction_chain.specs.Walk.{number_of_bits, Source, QuantileFromWord, QuantileFromBits, QuantileFromSource, IsQuantile, NeedsWord, OwesWord, QuantileReadBy}
