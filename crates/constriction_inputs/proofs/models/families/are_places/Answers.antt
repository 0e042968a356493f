use Rattle.constriction_inputs.proofs.models.families.are_places.Goals as goal

pub returns : goal.returns
returns g c = rw c.count_of-count.ensures at c.are_below.ensures
