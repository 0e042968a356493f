-- Range decoders as values, the quantile that a decoder reads, and the decoder after a read.
pub use Rattle.constriction_queue.specs.Decoder.{Decoder, decoder_of, decoder_at, placed_over, IsDecoder, distance, quantile_read, StandsAt, Follows, OwesRead, WordRead, WordListRead, PointWordRead, HasPoint, ReadsPoint, RefusesPoint, BeginsOver, LeadsOn, ReadsOn, ReadsStep, MayBeExhausted}
