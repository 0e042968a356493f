use Rattle.std.proofs.Common.{◌∙◌}
use Rattle.std.proofs.lemmas.Bool.{false≢true}
use Rattle.constriction_base.proofs.Heads.{large_of_shr}
use Rattle.constriction_queue.proofs.state.RangeCoderState.new.Goals as goal

pub invariant_of-result : goal.invariant_of-result
invariant_of-result g c =
    let is = rw (c.BITS.ensures, c.BITS-2.ensures) at c.shift_right.ensures in
    record { wide = large_of_shr _ _ (λ e. false≢true (c.if-is_nothing.ensures.1 (is ∙ e))) }
