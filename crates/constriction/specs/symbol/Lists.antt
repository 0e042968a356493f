-- Lists of symbols as concatenated codewords, and the decoding of such lists.
pub use Rattle.constriction_symbol.specs.Lists.{AreCodewords, of_pair, AreCodewordsBy, AreEach, ReadsAll, ReadsPairs, IsSamePair, AreSameBy}
