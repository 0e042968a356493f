use Rattle.std.proofs.Common.{[]}
use Rattle.constriction_inputs.proofs.Listing.{alike_at}
use Rattle.constriction_inputs.proofs.models.weights.WeightsListModelList.interval.Goals as goal

pub returns-in-Some-clause-found : goal.returns-in-Some-clause-found
returns-in-Some-clause-found g c = rw (alike_at _ c.args._place _ [] c.requires) c.in-Some.ensures.found

pub returns-in-None-clause-impossible : goal.returns-in-None-clause-impossible
returns-in-None-clause-impossible g c = rw (alike_at _ c.args._place _ [] c.requires) c.in-None.ensures.impossible
