-- The binary forms of a stack coder's states.
pub use Rattle.constriction_stack.specs.Binary.{binary_state, binary_words, BinaryMovesIn, BinaryFilledBy, BinaryRefused}
