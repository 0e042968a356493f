use Rattle.constriction_queue.proofs.Beginning.{ifok_map}
use Rattle.constriction_queue.proofs.decoder.RangeDecoder.for_compressed.Goals as goal

pub returns-clause-place : goal.returns-clause-place
returns-clause-place g c = ifok_map c.with_backend.result (λ d begins. (c.as_read_words.result, c.as_read_words.ensures.place, begins)) c.with_backend.ensures.reads
