-- The bit coder that a guard borrows, and the number of words that the guard wrote.
pub use Rattle.constriction_symbol.specs.Guarded.{lender, lent_back, written}
