use Rattle.std.proofs.Common.{◌≡◌, ◌<◌, ◌≤◌, ◌+◌, ◌-◌, ◌*◌, ◌/◌, ◌^◌, arith, ap, ◌∙◌, Some, List, Bool, pow_mono, reverse}
use Rattle.constriction_symbol.specs.Bits.{bits_of}
use Rattle.constriction_symbol.specs.Golomb.{golomb}
use Rattle.constriction_symbol.proofs.GolombLemmas.{golomb_begins, golomb_once_down}
use Rattle.constriction_symbol.proofs.exp_golomb.ExpGolombDecoderCodebook.symbol_at_once.Goals as goal

pub same_number-after-requires : goal.same_number-after-requires
same_number-after-requires g c =
    let b = g.Word.Natural.BITS in
    let len = c.bit_length.result in
    let part : 2 * (b - len) + 1 < b = omega (arith, rw c.BITS.ensures at c.if-length-count.false, c.requires) in
    let begun = golomb_begins b len (g.Word.Natural.number c.args.bits) c.bit_length.ensures.below c.bit_length.ensures.least c.bit_length.ensures.within part in
    let fits = rw (c.BITS.ensures, c.BITS-else-length-count.ensures) at c.if-zeros-BITS.false in
    let up : 2 ^ (b - len + 1) ≤ 2 ^ g.N.Natural.BITS = pow_mono (omega (arith, fits)) in
    rw (c.shift_right.ensures, c.BITS-2.ensures, c.BITS.ensures) (omega (arith, begun.0, up))

pub minus-requires : goal.minus-requires
minus-requires g c =
    let b = g.Word.Natural.BITS in
    let len = c.bit_length.result in
    let part : 2 * (b - len) + 1 < b = omega (arith, rw c.BITS.ensures at c.if-length-count.false, c.requires) in
    let begun = golomb_begins b len (g.Word.Natural.number c.args.bits) c.bit_length.ensures.below c.bit_length.ensures.least c.bit_length.ensures.within part in
    rw (c.unit.ensures, c.same_number-after.ensures, c.shift_right.ensures, c.BITS-2.ensures, c.BITS.ensures) begun.2

pub returns : goal.returns
returns g c =
    let b = g.Word.Natural.BITS in
    let len = c.bit_length.result in
    let n = g.Word.Natural.number c.args.bits in
    let zeros = b - len in
    let m = n / 2 ^ (b - (2 * zeros + 1)) in
    let fewer = rw c.BITS.ensures at c.if-length-count.false in
    let part : 2 * zeros + 1 < b = omega (arith, fewer, c.requires) in
    let begun = golomb_begins b len n c.bit_length.ensures.below c.bit_length.ensures.least c.bit_length.ensures.within part in
    let length : 2 * (zeros + 1) - 1 ≡ 2 * zeros + 1 = omega arith in
    let once : golomb (m - 1) ≡ reverse (bits_of (2 * zeros + 1) m) = golomb_once_down (zeros + 1) m begun.2 begun.0 begun.1 ∙ ap (λ k. reverse (bits_of k m)) length in
    let value : g.N.Natural.number c.minus.result ≡ m - 1 = rw (c.unit.ensures, c.same_number-after.ensures, c.shift_right.ensures, c.BITS-2.ensures, c.BITS.ensures) at c.minus.ensures in
    rw c.BITS.ensures
    (record {
      some = omega arith;
      part = fewer;
      is = ap (λ (bs : List Bool). Some bs) (ap golomb value ∙ once);
    })
