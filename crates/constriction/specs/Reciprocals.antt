-- The reciprocal of a divisor: a multiplier, an addend and a shift that give the exact quotient of each 64-bit number.
pub use Rattle.constriction_words.specs.Reciprocals.{ComputesQuotients, IsReciprocalOf}
