-- Encoding and decoding one symbol: the coder makes the step of an entry of the model's table.
pub use Rattle.constriction_stream.specs.Symbols.{EncodesSymbol, EncodesPair, DecodesSymbol, DecodesByModel, as_backend, IsBackendError, ByBackend, HasRoom, GoesOn}
