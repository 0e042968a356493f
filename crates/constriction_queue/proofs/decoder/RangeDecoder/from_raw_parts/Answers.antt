use Rattle.std.proofs.Common.{mod-lt, pow_pos, refl}
use Rattle.constriction_queue.proofs.Decoders.{is_decoder, is_inside}
use Rattle.constriction_queue.proofs.decoder.RangeDecoder.from_raw_parts.Goals as goal

pub returns-clause-coder : goal.returns-clause-coder
returns-clause-coder g c =
    is_decoder g.Word.Natural.number g.Backend.Holds _ _ _ _ _ _ c.requires c.args.state.wide (g.met.State.Natural.number_law _) (g.met.State.Natural.number_law _) (mod-lt _ (pow_pos g.State.Natural.BITS))

pub returns-then-not-is_below-clause-variant : goal.returns-then-not-is_below-clause-variant
returns-then-not-is_below-clause-variant g c = is_inside _ _ _ _ _ _ _ _ (g.met.State.Natural.number_law _) c.wrapping_minus-distance.ensures.value c.lower.ensures c.length.ensures.value c.if-not-is_below.ensures

pub returns-then-not-is_below-clause-err : goal.returns-then-not-is_below-clause-err
returns-then-not-is_below-clause-err g c = refl

pub returns-clause-variant : goal.returns-clause-variant
returns-clause-variant g c = is_inside _ _ _ _ _ _ _ _ (g.met.State.Natural.number_law _) c.wrapping_minus-distance.ensures.value c.lower.ensures c.length.ensures.value c.if-not-is_below.ensures

pub returns-clause-parts : goal.returns-clause-parts
returns-clause-parts g c = rw (rw c.lower.ensures at c.wrapping_minus-distance.ensures.back) refl
