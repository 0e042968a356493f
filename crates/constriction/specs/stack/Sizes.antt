-- The sizes of a stack coder's states, in words and in bits.
pub use Rattle.constriction_stack.specs.Sizes.{word_count, bit_count, valid_bit_count, SizesFit}
