-- Stack coders side by side, each over the first words of a row.
pub use Rattle.constriction_stack.specs.Lanes.{lane, MakesRoom}
pub use Rattle.constriction_interleaved.specs.Rows.{row, DecodesLane, DecodesLanes}
