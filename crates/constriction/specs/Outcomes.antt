-- Reasons why lists of symbols aren't coded, or don't come back from a round trip.
pub use Rattle.constriction_laws.specs.Outcomes.{StopsAmong, HasImpossibleItem, IfRefused, Reasons, OnlyRefused, UnlessImpossible, UnlessInvalid}
