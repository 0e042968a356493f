-- The words that a guard writes onto a bit coder's vector and removes again.
pub use Rattle.constriction_symbol.specs.Guards.{bits_without, LacksEnd, LacksRest, SameBits, spare_words}
