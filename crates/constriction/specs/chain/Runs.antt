-- Lists of decodes and precision changes on a chain coder. Comparing two lists states that symbols are isolated.
pub use Rattle.constriction_chain.specs.Runs.{Decoding, Event, Decode, Change, IsRun, decodings, AreIsolated}
