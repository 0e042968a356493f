-- Counts in proportion to floats, which are given by their bits.
pub use Rattle.constriction_models.specs.Floats.{float_bits, is_probability, significand, exponent, units, float_units, greatest_units, row_length, nearest, float_count, weight_count, weight_counts, counts_at, quick_bits, quick_counts, binary_length}
