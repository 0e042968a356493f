-- The positions of a stack coder.
pub use Rattle.constriction_stack.specs.Positions.{AnsPosition, position_of, sought, Grows}
