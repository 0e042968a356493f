-- The chain coder that an import makes from words, and the words that a coder without bits left over exports.
pub use Rattle.constriction_chain.specs.Imports.{compressed_words, AreBinaryWords, IsWhole, FromCompressed, FromBinary, FromRemainders}
