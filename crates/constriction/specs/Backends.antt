-- Reads and writes of a backend's words, and a position in a buffer.
pub use Rattle.constriction_base.specs.Backends.{Reads, Writes, IsWrite, BufferPosition}
