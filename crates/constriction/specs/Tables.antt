-- Tables at a given precision, and the table of a list of weights.
pub use Rattle.constriction_base.specs.Tables.{Has, AtEntry, Impossible, Follow, AreDistinct, IsTable, Covers, table_from, table_of}
pub use Rattle.constriction_base.specs.WeightTables.{entries, model_of, entries_are_table, HasReciprocals, HasNoReciprocals, HasFewRows}
