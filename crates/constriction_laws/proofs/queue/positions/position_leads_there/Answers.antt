use Rattle.constriction_queue.proofs.Sought.{sought_is_at}
use Rattle.constriction_laws.proofs.queue.positions.position_leads_there.Goals as goal

pub returns : goal.returns
returns c = λ w s words rest there place lower range point z are position point_is rest_is.
    sought_is_at w s words there place lower range point rest z are position point_is rest_is
