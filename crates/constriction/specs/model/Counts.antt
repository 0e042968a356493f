-- Weights in proportion to counts, with a weight of at least 1 for each count above 0.
pub use Rattle.constriction_models.specs.Counts.{positive, IsLimit, IsLeastLimit, AreRounded, AllShare, AreShares, ServesLargest, AreWeights, share_estimate, rounded_share}
