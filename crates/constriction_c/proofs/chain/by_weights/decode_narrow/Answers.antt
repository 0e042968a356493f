use Rattle.constriction_c.proofs.chain.by_weights.decode_narrow.Goals as goal

pub returns : goal.returns
returns g c = record { call = c.decode.ensures.call }
