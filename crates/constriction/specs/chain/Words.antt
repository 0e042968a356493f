-- The results of a chain coder's imports and exports, and the words after each result.
pub use Rattle.constriction_chain.specs.Words.{remainder_words, IsInBinary, BinaryNotWritten, IfFound, OnNone, BeginsNonzero, BeginsAndStops, TooFew, ReadsZero, NoStart, NoHeads, ReadsHeads, NotExported}
pub use Rattle.constriction_base.specs.Writing.{IsOneAbove, NotWritten}
pub use Rattle.constriction_base.specs.Readings.{ReadsAs, MovesIn, StopsAt}
