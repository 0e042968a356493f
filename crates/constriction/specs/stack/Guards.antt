-- The words that a guard writes onto a stack coder's backend and removes again.
pub use Rattle.constriction_stack.specs.Guards.{without, ShowsExported, ShowsBinary, ReadsWrittenBack, LeftByRefusal, ExportLeft, BinaryLeft}
pub use Rattle.constriction_stack.specs.Guarded.{lender, lent_back, written}
