-- Chunks of symbols, and the errors of building a store from chunks.
pub use Rattle.constriction_store.specs.Chunks.{lists_of, chunk_in, count_of, AllKnown, IsFirstUnknown, IsFirstUnknownOf}
pub use Rattle.constriction_store.specs.Built.{BuildFails}
