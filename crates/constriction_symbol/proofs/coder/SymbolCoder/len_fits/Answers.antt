use Rattle.std.proofs.Common.{◌≤◌, arith, length}
use Rattle.std.proofs.lemmas.Bool.{leb-true, le-leb}
use Rattle.constriction_symbol.proofs.Lengths.{length_above, fits_by_quotient}
use Rattle.constriction_symbol.proofs.coder.SymbolCoder.len_fits.Goals as goal

pub returns : goal.returns
returns g c =
    let w = g.Word.Natural.BITS in
    let words = g.B.Holds.words c.self.inside.backend in
    let last = c.self.inside.last in
    let count : length last ≤ 18446744073709551615 = omega (arith, c.count-last.ensures.value, c.count-last.ensures.within, g.met.Word.Natural.bits_law.1) in
    let by_quotient = fits_by_quotient (length words) w (length last) 18446744073709551615 (omega (arith, g.met.Word.Natural.bits_law.0)) count in
    rw (← c.self.view_is, length_above w g.Word.Natural.number words last, c.remaining.ensures, c.BITS.ensures, c.count-last.ensures.value) (
      λ is. by_quotient.0 (leb-true _ _ is),
      λ fits. le-leb _ _ (by_quotient.1 fits),
    )
