use Rattle.std.proofs.Common.{◌∙◌, ◌^◌, mod-lt, pow_pos}
use Rattle.constriction_queue.specs.States.{lower_of}
use Rattle.constriction_queue.proofs.Beginning.{at_start}
use Rattle.constriction_queue.proofs.Distances.{from_zero}
use Rattle.constriction_queue.proofs.Decoders.{is_decoder}
use Rattle.constriction_queue.proofs.decoder.RangeDecoder.with_backend.Goals as goal

pub returns-in-Ok-clause-coder : goal.returns-in-Ok-clause-coder
returns-in-Ok-clause-coder g c =
    is_decoder g.Word.Natural.number g.Backend.Holds _ _ _ _ _ _ c.requires c.start.result.wide (g.met.State.Natural.number_law _) (g.met.State.Natural.number_law _) (mod-lt _ (pow_pos g.State.Natural.BITS))

pub read_point-requires : goal.read_point-requires
read_point-requires g c = c.requires

pub returns-in-Ok-clause-ok : goal.returns-in-Ok-clause-ok
returns-in-Ok-clause-ok g c = λ list.
    at_start _ _ _ _ _ _ _ c.start.ensures.lower c.start.ensures.range (mod-lt _ (pow_pos g.State.Natural.BITS)) (from_zero _ _ _ c.start.ensures.lower (g.met.State.Natural.number_law _) ∙ (c.in-Ok.ensures.list list).0) (c.in-Ok.ensures.list list).1

pub returns-in-Ok-clause-reads : goal.returns-in-Ok-clause-reads
returns-in-Ok-clause-reads g c = (c.start.ensures.lower, c.start.ensures.range, rw (from_zero (g.State.Natural.number c.in-Ok.point) (lower_of c.start.result) (2 ^ g.State.Natural.BITS) c.start.ensures.lower (g.met.State.Natural.number_law _)) c.in-Ok.ensures.reads)

pub returns-in-Err-clause-err : goal.returns-in-Err-clause-err
returns-in-Err-clause-err g c = (_, c.in-Err.ensures.err)
