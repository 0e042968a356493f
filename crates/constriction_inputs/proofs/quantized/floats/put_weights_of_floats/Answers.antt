use Rattle.std.proofs.Common.{◌≡◌, ◌∙◌, ℕ, ◌*◌, ◌%◌, ◌≤◌, ◌^◌, length, map, arith}
use Rattle.std.proofs.lemmas.Nat.{one_shl}
use Rattle.std.proofs.lemmas.List.{length-map}
use Rattle.constriction_inputs.proofs.FloatCounts.{weights_by_counts}
use Rattle.constriction_inputs.proofs.quantized.floats.put_weights_of_floats.Goals as goal

at_most : (precision n : ℕ) → precision ≤ 31 → n ≤ 1 * 2 ^ precision % 18446744073709551616 → n ≤ 2 ^ precision
at_most precision n few h =
    let one : 1 * 2 ^ precision % 2 ^ 64 ≡ 2 ^ precision = one_shl precision 64 (omega (arith, few)) in
    rw one at h

pub returns-in-Ok : goal.returns-in-Ok
returns-in-Ok g c =
    let old = map g.P.Natural.number c.args.weights.now in
    let new = map g.P.Natural.number c.put_weights_of_counts.new.weights in
    let same : length old ≡ length c.args.floats.now = length-map c.args.weights.now g.P.Natural.number ∙ omega (arith, c.if-weights-floats.false) in
    let few : length c.args.floats.now ≤ 2 ^ g.row.PRECISION = at_most g.row.PRECISION (length c.args.floats.now) (omega arith) c.if-floats.false in
    record {
      call = weights_by_counts c.in-Ok.counts g.row.PRECISION c.args.floats.now c.deref.result.now old new c.put_weights_of_counts.result (c.deref.ensures.value ∙ c.in-Ok.ensures.counts) same few c.in-Ok.ensures.invalid c.in-Ok.ensures.empty c.put_weights_of_counts.ensures.call;
    }
