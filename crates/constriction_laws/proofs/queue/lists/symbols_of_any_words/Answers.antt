use Rattle.std.proofs.Common.{◌∷◌}
use Rattle.constriction_queue.specs.Range.{initial}
use Rattle.constriction_queue.proofs.Narrowing.{valid_start}
use Rattle.constriction_queue.proofs.WordsWithin.{within_read}
use Rattle.constriction_laws.proofs.queue.lists.symbols_of_any_words.Goals as goal

pub returns : goal.returns
returns g c = λ w s words first others last z are ms h. (
  λ read. within_read w s words first others last z are ms read,
  λ within. c.decodes_undo_encodes.ensures.back w s words (first ∷ others) (initial s) last z are ms (valid_start w s z) h within,
)
