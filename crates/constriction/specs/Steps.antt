-- Steps of a coder, steps one after the other, and the allowed sizes of words and states.
pub use Rattle.constriction_base.specs.Steps.{Step, IsStep, AreSteps, Trace, AreWords, IsSizes}
