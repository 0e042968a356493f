use Rattle.constriction_c.proofs.range.by_weights.encode_by_weights.Goals as goal

pub returns : goal.returns
returns g c = record { call = c.encode.ensures.call }
