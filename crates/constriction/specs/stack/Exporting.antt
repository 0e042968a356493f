-- The words that a stack coder exports after encoding a list of symbols, and states without a binary form.
pub use Rattle.constriction_laws.specs.stack.Exporting.{ExportsAll, ComesFromNoWords, LeadsToNoBinary}
