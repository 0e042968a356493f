-- Mixtures of distribution functions.
pub use Rattle.constriction_models.specs.Mixtures.{Weighted, total_weight, weighted_sum, mixed, weighted}
