use Rattle.std.proofs.Common.{◌≡◌, ◌<◌, ◌≤◌, ◌*◌, ◌+◌, ◌-◌, ◌%◌, ◌^◌, ◌∙◌, ap, arith, pow_pos, refl}
use Rattle.std.proofs.Math.Pow.{pow_mono}
use Rattle.std.proofs.lemmas.Nat.{mod_below}
use Rattle.constriction_symbol.proofs.Marked.{read_below_one}
use Rattle.constriction_symbol.proofs.huffman.codewords.below_one.Goals as goal

pub same_number-requires : goal.same_number-requires
same_number-requires g c =
    let count = c.bit_length-count.result - 1 in
    let room : 2 ^ count ≤ 2 ^ g.Word.Natural.BITS = pow_mono (omega (arith, c.if-count-BITS.false, c.BITS.ensures)) in
    omega (arith, c.low_bits.ensures, mod_below (c.args.number % 18446744073709551616) (2 ^ count) (pow_pos count), room)

pub returns-clause-bits : goal.returns-clause-bits
returns-clause-bits g c = λ bits below.
    let count = c.bit_length-count.result - 1 in
    let long = c.bit_length-count.result in
    let whole : c.args.number % 18446744073709551616 ≡ c.args.number = omega (arith, c.ranges.number.fits) in
    let fits : c.args.number < 2 ^ long = omega (arith, whole, c.bit_length-count.ensures.below) in
    let least : 2 ^ long ≤ 2 * c.args.number + 1 = omega (arith, whole, c.bit_length-count.ensures.least) in
    let low : g.Word.Natural.number c.same_number.result ≡ c.args.number % 2 ^ count = c.same_number.ensures ∙ (c.low_bits.ensures ∙ ap (λ n. n % 2 ^ count) whole) in
    read_below_one g.Word.Natural.BITS c.args.number long count (g.Word.Natural.number c.same_number.result) bits below (λ few. omega (arith, few, c.if-number-lt2.false)) fits least refl low
    (omega (arith, c.if-count-BITS.false, c.BITS.ensures))
