-- Exports of a stack coder that fail because the backend refuses a word.
pub use Rattle.constriction_stack.specs.Exports.{ExportNotWritten, BinaryExportNotWritten}
