-- Reasons why codewords aren't written or read, and why codewords have no cost.
pub use Rattle.constriction_laws.specs.symbol.Refusals.{NoCodewordsBegin, HaveNoTree, StopsAtCodebook, StopsAtItem, StopsAtItemFromBack, StopsReading, SymbolNotWritten}
