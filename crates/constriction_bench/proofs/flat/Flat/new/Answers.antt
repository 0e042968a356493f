use Rattle.std.proofs.Common.{arith, ◌≡◌, ◌^◌, ◌-◌, ◌*◌, ap, ◌∙◌}
use Rattle.std.proofs.lemmas.Nat.{pow_pos}
use Rattle.constriction_base.proofs.Results.{some_above_zero}
use Rattle.constriction_bench.proofs.Powers.{moved_fits}
use Rattle.constriction_base.proofs.Sizes.{same_number}
use Rattle.constriction_bench.proofs.flat.Flat.new.Goals as goal

pub shift_left-weight-requires-clause-fits : goal.shift_left-weight-requires-clause-fits
shift_left-weight-requires-clause-fits g c =
    let one : g.Probability.Natural.number c.narrow.result ≡ 1 = c.narrow.ensures ∙ same_number 1 1 _ (omega arith) (omega (arith, c.requires.0, c.requires.1)) in
    let some : (c.args.bits ≡ 0) → ⊥ = c.if-bits-eq0.false in
    rw one (moved_fits 1 1 (g.row.PRECISION - c.args.bits) _ (omega arith) (omega (arith, c.requires.1, c.requires.0, c.if-bits.false)))

pub unwrap-requires : goal.unwrap-requires
unwrap-requires g c =
    let one : g.Probability.Natural.number c.narrow.result ≡ 1 = c.narrow.ensures ∙ same_number 1 1 _ (omega arith) (omega (arith, c.requires.0, c.requires.1)) in
    let weight : g.Probability.Natural.number c.shift_left-weight.result ≡ 2 ^ (g.row.PRECISION - c.args.bits) =
    c.shift_left-weight.ensures ∙ ap (λ n. n * 2 ^ (g.row.PRECISION - c.args.bits)) one ∙ omega arith in
    some_above_zero _ g.Probability.BitArray.nonzero_number _ (omega (arith, weight, pow_pos (g.row.PRECISION - c.args.bits))) c.to_nonzero.ensures

pub invariant_of-result-clause-is_power : goal.invariant_of-result-clause-is_power
invariant_of-result-clause-is_power g c =
    let one : g.Probability.Natural.number c.narrow.result ≡ 1 = c.narrow.ensures ∙ same_number 1 1 _ (omega arith) (omega (arith, c.requires.0, c.requires.1)) in
    let weight = rw c.unwrap.ensures at c.to_nonzero.ensures in
    weight ∙ c.shift_left-weight.ensures ∙ ap (λ n. n * 2 ^ (g.row.PRECISION - c.args.bits)) one ∙ omega arith
