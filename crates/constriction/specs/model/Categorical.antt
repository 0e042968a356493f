-- The table of a row of counts: each symbol has one quantile of its own, and the counts share the other quantiles.
pub use Rattle.constriction_models.specs.Categorical.{MakeCategorical, categorical, shared_start}
pub use Rattle.constriction_models.specs.Cumulative.{differences}
