use Rattle.std.proofs.Common.{arith, ◌-◌, refl, false}
use Rattle.constriction_chain.proofs.Windows.{window_end}
use Rattle.constriction_base.proofs.Heads.{some_of_test}
use Rattle.constriction_chain.proofs.Sizes.{minus_minus}
use Rattle.constriction_chain.proofs.heads.ChainCoderHeads.new.Goals as goal

pub invariant_of-result : goal.invariant_of-result
invariant_of-result g c =
    let end = window_end g.Word.Natural.BITS g.State.Natural.BITS g.row.PRECISION c.requires in
    let low = rw (c.BITS.ensures, minus_minus) at (c.if-is_below_power.ensures) in
    (c.requires, some_of_test c.is_nothing.result _ c.is_nothing.ensures c.if-is_nothing.false, record { from = low; below = omega (arith, end, c.if-not-is_below_power.ensures) })

pub returns-clause-variant : goal.returns-clause-variant
returns-clause-variant g c = (λ some. ((invariant_of-result g c).1, (invariant_of-result g c).2), λ are. refl)

pub returns-then-not-is_below_power-clause-variant : goal.returns-then-not-is_below_power-clause-variant
returns-then-not-is_below_power-clause-variant g c =
    let end = window_end g.Word.Natural.BITS g.State.Natural.BITS g.row.PRECISION c.requires in
    (λ some. cc, λ are. absurd (omega (arith, are.1.below, end, c.if-not-is_below_power.ensures)))
