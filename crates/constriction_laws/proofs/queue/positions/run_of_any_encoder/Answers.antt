use Rattle.constriction_laws.proofs.of_queue.AnyEncoder.{encoder_interval}
use Rattle.constriction_laws.proofs.queue.positions.run_of_any_encoder.Goals as goal

pub returns : goal.returns
returns g c = encoder_interval g.Word.Natural.number _ g.Word.Natural.BITS g.State.Natural.BITS c.args.encoder.now g.met.Word.Natural.number_law c.bulk.ensures.coder
