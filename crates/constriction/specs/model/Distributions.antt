-- Distribution functions given by a table of values, and the tables for normal, Laplace and logistic distributions.
pub use Rattle.constriction_models.specs.Interpolation.{AreValues, scaled, interpolate}
pub use Rattle.constriction_models.specs.Scales.{scale_number}
pub use Rattle.constriction_models.specs.Normal.{normal_values}
pub use Rattle.constriction_models.specs.Laplace.{laplace_values}
pub use Rattle.constriction_models.specs.Logistic.{logistic_values}
