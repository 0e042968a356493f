-- What a store holds: its index, its words, and the chunks at its entries.
pub use Rattle.constriction_store.specs.Stores.{Entry, entry_of, entry_at, entry_in, EntriesWithin, total_of, IsIndex, Stored, run_from, run_at, HoldsChunk, HoldsNoSymbol, HoldsNoChunk, HoldsChunks, StandsAtEntry, Indexes, IsBuilt}
