-- The words that a backend's reads return, and functions that give the words left in a backend.
pub use Rattle.constriction_base.specs.Readings.{NeverRefused, BeginsHigh, ReadsReturn, Imports, ReadsAs, MovesIn, StopsAt, Fills, ReadsUpTo}
pub use Rattle.constriction_laws.specs.Readings.{ListsWords, YieldsWord, ListsItems, words_left}
