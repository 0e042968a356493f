use Rattle.constriction_laws.proofs.of_stack.ByReads.{item_read}
use Rattle.constriction_laws.proofs.stack.readings.items_are_words.Goals as goal

pub returns : goal.returns
returns g c = λ words law old new answer r. item_read g.Iter.Iterator.next_gives words law old.0 new.0 old.1 new.1 answer r
