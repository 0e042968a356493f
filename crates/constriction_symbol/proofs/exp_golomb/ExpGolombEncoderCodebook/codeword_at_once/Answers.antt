use Rattle.std.proofs.Common.{◌≡◌, ◌<◌, ◌-◌, arith, ap, sym, ◌∙◌, Some, List, Bool}
use Rattle.constriction_symbol.specs.Golomb.{golomb}
use Rattle.constriction_symbol.proofs.GolombLemmas.{golomb_fits, golomb_once_down}
use Rattle.constriction_symbol.proofs.exp_golomb.ExpGolombEncoderCodebook.codeword_at_once.Goals as goal

pub same_number-requires : goal.same_number-requires
same_number-requires g c =
    let some : 0 < g.N.Natural.number c.plus-after.result = omega (arith, c.plus-after.ensures, c.unit.ensures) in
    (golomb_fits c.bit_length.result _ g.Word.Natural.BITS some c.bit_length.ensures.below c.bit_length.ensures.least (rw c.BITS.ensures at c.if-count-BITS.true)).0

pub returns-then-count-BITS : goal.returns-then-count-BITS
returns-then-count-BITS g c =
    let m = g.N.Natural.number c.plus-after.result in
    let some : 0 < m = omega (arith, c.plus-after.ensures, c.unit.ensures) in
    let before : m - 1 ≡ g.N.Natural.number c.args.symbol.now = omega (arith, c.plus-after.ensures, c.unit.ensures) in
    let part = rw c.BITS.ensures at c.if-count-BITS.true in
    let fits = golomb_fits c.bit_length.result m g.Word.Natural.BITS some c.bit_length.ensures.below c.bit_length.ensures.least part in
    record {
      some = fits.2;
      part = part;
      small = rw c.same_number.ensures fits.1;
      is = rw c.same_number.ensures (ap (λ (bs : List Bool). Some bs) (ap golomb (sym before) ∙ golomb_once_down c.bit_length.result m some c.bit_length.ensures.below c.bit_length.ensures.least));
    }
