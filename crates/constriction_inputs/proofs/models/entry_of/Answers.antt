use Rattle.constriction_inputs.proofs.models.entry_of.Goals as goal

pub returns-in-Some-clause-found : goal.returns-in-Some-clause-found
returns-in-Some-clause-found g c = record { sized = g.met.M.EntropyModel.sized c.args.model.now; lawful = g.M.EntropyModel.lawful c.args.model.now; has = c.in-Some.ensures.found }
