-- The lowest digits of a number, as a list of a given length, and the length of a number in words.
pub use Rattle.constriction_base.specs.Digits.{fixed_digits, count_of_words}
