-- Calls that make one step of a coder for each item of an iterator, and iterators over decoded symbols.
pub use Rattle.constriction_stream.specs.Lists.{StepsAll, StepsUntilFault, YieldsUpTo, LowersByItems, as_tried, TriesItem, AnswersNext, CountsDown}
