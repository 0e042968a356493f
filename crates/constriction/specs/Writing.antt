-- Writing all words that a call has to write to a backend, and the state of the backend after a refused write.
pub use Rattle.constriction_base.specs.Writing.{IsBegun, WriteTrace, StopsAtWrite, IsPrepared, RefusesWrite, RefusedWrite, WritesAll, Appends, NotWritten, IsOneAbove}
