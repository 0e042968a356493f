use Rattle.constriction_c.proofs.lanes.by_weights.encode_reverse_by_weights.Goals as goal

pub returns : goal.returns
returns g c = record { call = c.encode_reverse.ensures.call }
