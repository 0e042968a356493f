use Rattle.std.proofs.Common.{◌≡◌, ◌<◌, ◌-◌, arith, refl}
use Rattle.constriction_symbol.proofs.Coding.{top_word}
use Rattle.constriction_symbol.proofs.top_bits.TopBits.below_highest.Goals as goal

pub returns : goal.returns
returns g c =
    let n = g.Word.Natural.number c.args.word in
    let not_zero : n ≡ 0 → ⊥ = λ none. let clear = c.if-is_nothing.false in let is = c.is_nothing.ensures.1 none in cc in
    let some : 0 < n = omega (arith, not_zero) in
    let left : g.Word.Natural.BITS - (g.Word.Natural.BITS - (c.bit_length-count.result - 1)) ≡ c.bit_length-count.result - 1 = omega (arith, c.bit_length-count.ensures.within) in
    rw (c.BITS.ensures, left, c.at_top.ensures)
    (top_word g.Word.Natural.BITS n _ c.bit_length-count.result (g.Word.Natural.number c.low_bits.result) some c.bit_length-count.ensures.below c.bit_length-count.ensures.least c.bit_length-count.ensures.within refl c.low_bits.ensures)
