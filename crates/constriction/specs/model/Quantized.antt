-- The table of a quantized distribution function, with cuts halfway between neighbouring symbols.
pub use Rattle.constriction_models.specs.Cuts.{entries_from}
pub use Rattle.constriction_models.specs.Quantized.{IsDistribution, symbol_of, edge_of, below_edge, start_of, quantized}
pub use Rattle.constriction_models.specs.Quantizers.{first_symbol, symbol_count}
