-- Emitting codewords in reverse order.
pub use Rattle.constriction_symbol.specs.Reversed.{IsLongerThan, EmitsUnlessLong, StacksCodeword, StacksPair, StacksSymbol}
