-- Symbols that a chain coder decodes, each with the table and the precision of its model.
pub use Rattle.constriction_laws.specs.chain.Isolating.{decoding_of, decodings_by}
