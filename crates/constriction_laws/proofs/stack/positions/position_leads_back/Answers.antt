use Rattle.constriction_stack.proofs.PositionsKept.{sought_back, held_less}
use Rattle.constriction_laws.proofs.of_stack.Seeking.{encodes_grow}
use Rattle.constriction_laws.proofs.stack.positions.position_leads_back.Goals as goal

pub returns-clause-grows : goal.returns-clause-grows
returns-clause-grows g c = λ w s items old new z ms h. encodes_grow w s z items old new ms h

pub returns-clause-held : goal.returns-clause-held
returns-clause-held g c = λ w s items old new z ms h. held_less old new (encodes_grow w s z items old new ms h)

pub returns-clause-state : goal.returns-clause-state
returns-clause-state g c = λ w s items old new z ms h. sought_back old new (encodes_grow w s z items old new ms h)
