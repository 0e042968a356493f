use Rattle.constriction_queue.proofs.Entries.{intervals}
use Rattle.constriction_queue.proofs.ComingBack.{encodes_exist, encodes_unique}
use Rattle.constriction_laws.proofs.queue.lists.one_list_of_encodes.Goals as goal

pub returns-clause-exists : goal.returns-clause-exists
returns-clause-exists g c = encodes_exist

pub returns-clause-unique : goal.returns-clause-unique
returns-clause-unique g c = encodes_unique

pub returns-clause-interval : goal.returns-clause-interval
returns-clause-interval g c = intervals
