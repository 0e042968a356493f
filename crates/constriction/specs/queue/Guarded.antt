-- The encoder that a guard borrows, and the number of words that the guard wrote.
pub use Rattle.constriction_queue.specs.Guarded.{lender, written, lent_by, lent_back, TooShortForSeal}
