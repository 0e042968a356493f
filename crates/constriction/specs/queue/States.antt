-- The interval of a range coder (its lower end and its length), and the position of a run.
pub use Rattle.constriction_queue.specs.States.{lower_of, range_of, IsPosition}
