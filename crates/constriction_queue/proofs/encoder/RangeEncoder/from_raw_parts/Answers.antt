use Rattle.constriction_queue.proofs.Encoders.{is_encoder}
use Rattle.constriction_queue.proofs.encoder.RangeEncoder.from_raw_parts.Goals as goal

pub returns-clause-coder : goal.returns-clause-coder
returns-clause-coder g c =
    is_encoder g.Word.Natural.number g.Backend.Holds _ _ _ _ _ c.args.situation c.requires.sizes c.requires.fit c.args.state.wide (g.met.State.Natural.number_law _) (g.met.State.Natural.number_law _)
