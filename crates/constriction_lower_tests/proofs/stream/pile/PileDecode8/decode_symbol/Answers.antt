use Rattle.std.proofs.Common.{rules, ◌≡◌, ℕ, ◌%◌, ◌^◌, ◌<◌, ◌≤◌, arith, refl}
use Rattle.std.proofs.Math.Nat.{mod-eq_of_lt}
use Rattle.std.proofs.Common.{pow_mono}
use Rattle.constriction_lower_tests.proofs.stream.pile.PileDecode8.decode_symbol.Goals as goal

-- a quantile of eight bits fits
fits : (q bits : ℕ) → 8 ≤ bits → q % 256 % 4294967296 % 2 ^ bits ≡ q % 256
fits q bits h =
    let wide : 2 ^ 8 ≤ 2 ^ bits = pow_mono h in
    let below : q % 256 < 256 = omega arith in
    let within : q % 256 < 2 ^ bits = omega arith in
    let word : q % 256 < 4294967296 = omega arith in
    rw (mod-eq_of_lt word) (mod-eq_of_lt within)

pub returns-in-Some : goal.returns-in-Some
returns-in-Some g c =
    let sized = g.met.M.EntropyModel.sized c.args.model in
    let quantile = rw (fits c.in-Some.quantile g.M.Probability.Natural.BITS sized.1) at c.narrow.ensures in
    let covers = c.quantile_function-symbol.ensures.covers in
    record { step = (_, _, c.quantile_function-symbol.ensures.found, (refl, refl, (c.in-Some.quantile, search rules, (rw quantile at covers.0, rw quantile at covers.1)))) }
