-- Lists of words of which the backend refuses one. The words written before the refused word stay on the backend.
pub use Rattle.constriction_base.specs.Writing.{IsBegun, NotWritten}
