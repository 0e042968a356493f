-- The results of look-ups in a store, of one chunk or of several chunks.
pub use Rattle.constriction_store.specs.LookedUp.{HoldsSome, LookUpFails, IsChunk, CannotLookUp}
