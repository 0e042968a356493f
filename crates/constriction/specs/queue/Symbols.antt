-- Encoding symbols on the interval of a range coder, each under its model, and decoding symbols from words.
pub use Rattle.constriction_queue.specs.Symbols.{Narrows, Finds, NarrowsAll, FindsAll, NearsEnd, MayEnd}
pub use Rattle.constriction_queue.specs.Decoder.{StandsAt}
