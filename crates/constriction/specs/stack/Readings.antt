-- Imports and decodes of a stack coder over a backend such as an iterator, in terms of the backend's reads.
pub use Rattle.constriction_laws.specs.stack.Readings.{state_by_words, DecodesBy, DecodesAllBy, DecodesFrom, DecodesFromBinary, ListsExport}
