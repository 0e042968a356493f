-- Encoding and decoding symbols on a stack coder's state, each symbol under its model.
pub use Rattle.constriction_stack.specs.Symbols.{Encodes, Decodes, EncodesAll, DecodesAll}
