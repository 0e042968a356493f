use Rattle.std.proofs.Common.{arith, ◌^◌, ◌*◌, ap, ◌∙◌}
use Rattle.constriction_bench.specs.Equal.{equal_has, equal_impossible}
use Rattle.constriction_bench.proofs.Powers.{moved_fits, same_in_word}
use Rattle.constriction_bench.proofs.flat.FlatEncoderModel.left_cumulative_and_probability.Goals as goal
use Rattle.constriction_base.proofs.Heads.{small_of_shr, large_of_shr}

pub returns-then-symbol-self-ne0-clause-impossible : goal.returns-then-symbol-self-ne0-clause-impossible
returns-then-symbol-self-ne0-clause-impossible g c =
    let flat = c.args.self.now in
    equal_impossible flat.bits flat.shift _ (large_of_shr c.args.symbol.now flat.bits c.if-symbol-self-ne0.true)

pub shift_left-left-requires-clause-fits : goal.shift_left-left-requires-clause-fits
shift_left-left-requires-clause-fits g c =
    let flat = c.args.self.now in
    let below = small_of_shr c.args.symbol.now flat.bits c.if-symbol-self-ne0.false in
    let same = same_in_word c.args.symbol.now _ flat.bits _ c.narrow.ensures below flat.few_bits (omega (arith, flat.whole, flat.fits)) in
    moved_fits _ flat.bits flat.shift _ (rw same below) (omega (arith, flat.whole, flat.fits))

pub returns-clause-found : goal.returns-clause-found
returns-clause-found g c =
    let flat = c.args.self.now in
    let below = small_of_shr c.args.symbol.now flat.bits c.if-symbol-self-ne0.false in
    let same = same_in_word c.args.symbol.now _ flat.bits _ c.narrow.ensures below flat.few_bits (omega (arith, flat.whole, flat.fits)) in
    equal_has flat.bits flat.shift _ _ _ below (c.shift_left-left.ensures ∙ ap (λ n. n * 2 ^ flat.shift) same) flat.is_power
