-- The self-delimiting seal, which any words may follow.
pub use Rattle.constriction_queue.specs.SelfDelimiting.{AreEnough, AreLeast, sealed_with_zeros, SelfDelimits}
