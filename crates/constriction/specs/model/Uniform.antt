-- The table of a uniform model: all weights are equal, except that the last symbol also gets the weight left over.
pub use Rattle.constriction_models.specs.Uniform.{even_start, uniform}
