-- Reasons why a chain coder stops decoding or encoding symbols, and round trips through the remainders.
pub use Rattle.constriction_laws.specs.chain.Endings.{BeginInBinary, ComesBackOver, Ended, EndsEarly, IsImpossible, LacksWord, NotEncoded, NotPutBack, OnlyEnds, RefusedAmong, StopsBefore, ChainDecodedList}
