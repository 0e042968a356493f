-- The table of a Bernoulli model, which has two symbols.
pub use Rattle.constriction_models.specs.Bernoulli.{bernoulli}
