use Rattle.constriction_c.proofs.range.by_weights.decode_by_weights.Goals as goal

pub returns : goal.returns
returns g c = record { call = c.decode.ensures.call }
