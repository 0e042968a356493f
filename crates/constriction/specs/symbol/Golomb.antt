-- The Exp-Golomb codewords, and the bits after which a reader reads on or stops with an error.
pub use Rattle.constriction_symbol.specs.Golomb.{binary, golomb, number_after, zeros_one, WantsBit, IsInvalid}
