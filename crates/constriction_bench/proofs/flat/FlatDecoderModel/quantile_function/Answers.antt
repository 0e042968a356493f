use Rattle.std.proofs.Common.{arith, ℕ, ◌≡◌, ◌<◌, ◌+◌, ◌^◌, ◌/◌, ◌*◌, ap, ◌∙◌}
use Rattle.std.proofs.lemmas.Nat.{shr_below}
use Rattle.constriction_bench.specs.Equal.{equal_has}
use Rattle.constriction_bench.proofs.Powers.{moved_fits, covered}
use Rattle.constriction_bench.proofs.flat.FlatDecoderModel.quantile_function.Goals as goal

-- the symbol of a quantile is one of the model's
symbol_below : (q k bits shift precision : ℕ) → bits + shift ≡ precision → q < 2 ^ precision → k ≡ q / 2 ^ shift → k < 2 ^ bits
symbol_below q k bits shift precision whole below is =
    rw is (shr_below q bits shift (rw (← whole) at below))

pub shift_left-requires-clause-fits : goal.shift_left-requires-clause-fits
shift_left-requires-clause-fits g c =
    let flat = c.args.self.now in
    let number = g.Probability.Natural.number in
    let below = symbol_below (number c.args.quantile) (number c.shift_right-symbol.result) flat.bits flat.shift _ flat.whole c.requires c.shift_right-symbol.ensures in
    moved_fits _ flat.bits flat.shift _ below (omega (arith, flat.whole, flat.fits))

pub returns-clause-found : goal.returns-clause-found
returns-clause-found g c =
    let flat = c.args.self.now in
    let number = g.Probability.Natural.number in
    let below = symbol_below (number c.args.quantile) (number c.shift_right-symbol.result) flat.bits flat.shift _ flat.whole c.requires c.shift_right-symbol.ensures in
    let same : c.widen.result ≡ number c.shift_right-symbol.result = omega (arith, c.widen.ensures, c.widen.type_inv) in
    equal_has flat.bits flat.shift _ _ _ (rw same below) (rw same c.shift_left.ensures) flat.is_power

pub returns-clause-covers : goal.returns-clause-covers
returns-clause-covers g c =
    let flat = c.args.self.now in
    let q = g.Probability.Natural.number c.args.quantile in
    let left = c.shift_left.ensures ∙ ap (λ n. n * 2 ^ flat.shift) c.shift_right-symbol.ensures in
    let part = covered q flat.shift in
    rw (left, flat.is_power) part
