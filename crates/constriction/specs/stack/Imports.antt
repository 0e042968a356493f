-- The results of a stack coder's imports, and the words that an import reads.
pub use Rattle.constriction_stack.specs.Imports.{FilledBy, ImportRefused, ListRefused}
