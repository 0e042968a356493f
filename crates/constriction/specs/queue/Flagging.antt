-- Symbols that a `FlagSwitch` decodes before and after its flag, and the reasons why it stops.
pub use Rattle.constriction_laws.specs.queue.Flagging.{ReturnsFlagged, StopsFlagged, flagged_behind}
