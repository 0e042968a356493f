-- Range coding in unbounded numbers: an encoder's low end, range and seal, and the steps that a decoder takes.
pub use Rattle.constriction_queue.specs.Range.{Run, step_of, initial, scale, cut, grown, narrowed_by, run, seal_number, sealed, number_of_first, number_read, offset, QuantileInInterval, ReadAs, Within, IsInterval, IsAt}
