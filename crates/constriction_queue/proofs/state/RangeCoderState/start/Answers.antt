use Rattle.std.proofs.Common.{arith}
use Rattle.constriction_queue.proofs.Fits.{below_greatest}
use Rattle.constriction_queue.proofs.state.RangeCoderState.start.Goals as goal

pub invariant_of-result : goal.invariant_of-result
invariant_of-result g c = record { wide = below_greatest _ _ _ g.met.Word.WordOf.width_law (omega (arith, g.met.Word.Natural.bits_law)) c.greatest.ensures }
