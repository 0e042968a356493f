-- The condition that a chain coder takes less than 2 ^ 63 bytes of memory. Generic code that holds a chain coder
-- requires this condition.
pub use Rattle.constriction_chain.specs.Fits.{CoderFits}
