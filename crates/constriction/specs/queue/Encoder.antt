-- Range encoders as values, the condition that pending words fit the interval, and the words that an encode must write.
pub use Rattle.constriction_queue.specs.Encoder.{number_of, repeated_words, pending_of, PartsFit, Encoder, encoder_of, shifted_over, begun_over, IsEncoder, run_of, ChangesRun, run_by, sealed_by, SizesFit, HasHeads, Without, left_to_encode, CanHoldMore, released_of, word_of, flushed_of, pending_in_order, flushed_in_order, Flushes, IsCarried, ReleasesPending, CanCarry}
