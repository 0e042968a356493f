use Rattle.std.specs.Prelude.{◌≡◌, ◌≤◌, ◌^◌, ℕ}
use Rattle.std.proofs.Common.{arith}
use Rattle.constriction_base.proofs.Entries.{in_range}
use Rattle.constriction_base.proofs.Sizes.{pow_le}
use Rattle.constriction_models.proofs.lookup.row_at.Goals as goal

pub to_index-requires-2 : goal.to_index-requires-2
to_index-requires-2 g c =
    let left : ℕ = g.M.Probability.Natural.number c.quantile_function-symbol.result.1 in
    let weight : ℕ = g.M.Probability.BitArray.nonzero_number c.quantile_function-symbol.result.2 in
    let range = in_range 0 (2 ^ g.row.PRECISION) (g.M.EntropyModel.table c.args.model.now) c.quantile_function-symbol.result.0 left weight (g.M.EntropyModel.lawful c.args.model.now).follow c.quantile_function-symbol.ensures.found in
    let small : 2 ^ g.row.PRECISION ≤ 2 ^ 16 = pow_le g.row.PRECISION 16 c.requires.small in
    omega (arith, range.2, small, c.from_nonzero.ensures)

pub overflow_add-result : goal.overflow_add-result
overflow_add-result g c =
    let left : ℕ = g.M.Probability.Natural.number c.quantile_function-symbol.result.1 in
    let weight : ℕ = g.M.Probability.BitArray.nonzero_number c.quantile_function-symbol.result.2 in
    let range = in_range 0 (2 ^ g.row.PRECISION) (g.M.EntropyModel.table c.args.model.now) c.quantile_function-symbol.result.0 left weight (g.M.EntropyModel.lawful c.args.model.now).follow c.quantile_function-symbol.ensures.found in
    let small : 2 ^ g.row.PRECISION ≤ 2 ^ 16 = pow_le g.row.PRECISION 16 c.requires.small in
    let low : c.to_index.result ≡ left = omega (arith, c.to_index.ensures) in
    let long : c.to_index-2.result ≡ weight = omega (arith, c.to_index-2.ensures, c.from_nonzero.ensures) in
    record { fits = omega (arith, range.2, small, low, long) }
