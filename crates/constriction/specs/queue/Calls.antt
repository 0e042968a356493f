-- The results of a range coder's calls, and the coder after each result.
pub use Rattle.constriction_queue.specs.Calls.{IsWritten, IsRefused, EncodeCall, ExportRefused, SealRefused, SelfDelimitingRefused, queue_reads, BeginsSealed, DecodesSealed, NotBegun, NoDecoder, DecodeCall}
