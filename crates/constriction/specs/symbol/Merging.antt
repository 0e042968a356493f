-- The weights that make a Huffman tree, and the errors for other weights.
pub use Rattle.constriction_symbol.specs.Merging.{YieldsWeights, StopsGiving, LendsWeights, StopsLending, FitTree, MakeNoTree, RefusesGiven, MakesTree, MakesGiven, MakesLent, RefusesLent}
