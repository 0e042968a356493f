-- An iterator over `Result`s of words as a backend: each read takes the next item.
pub use Rattle.constriction_base.specs.Iterators.{item_of_answer, FusedStep, FusedRead, answer_of, CanGive}
