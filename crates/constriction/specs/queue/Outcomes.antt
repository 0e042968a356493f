-- The errors of a range coder's round trips, and properties of the words that are exported and decoded.
pub use Rattle.constriction_laws.specs.queue.Outcomes.{NotCoded, NotRead, ReadTo, NoList, NoListFrom, SealsAll, ReadsToEnd, LieWithin, NoListAt, InvalidWhere, ReportsEnd}
