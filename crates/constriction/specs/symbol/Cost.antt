-- The cost of codewords: the sum of weight times length.
pub use Rattle.constriction_laws.specs.symbol.Cost.{cost, AreLawful, AreCodewordsOf, HaveCodewords, AreApart, Costs, CostsFromZero}
