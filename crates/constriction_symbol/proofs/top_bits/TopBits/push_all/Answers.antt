use Rattle.std.proofs.Common.{arith}
use Rattle.constriction_symbol.proofs.Coding.{length_bits}
use Rattle.constriction_symbol.proofs.TopLemmas.{all_at_top, shifted_room, sum_room, put_fits}
use Rattle.constriction_symbol.proofs.top_bits.TopBits.push_all.Goals as goal

pub shift_left-above-requires-clause-fits : goal.shift_left-above-requires-clause-fits
shift_left-above-requires-clause-fits g c =
    rw c.BITS.ensures (shifted_room g.Word.Natural.BITS c.args.count (g.Word.Natural.number c.args.bits) (omega (arith, c.requires.part)) c.requires.small)

pub plus-self-inside-requires : goal.plus-self-inside-requires
plus-self-inside-requires g c =
    rw (c.shift_right.ensures, c.shift_left-above.ensures, c.BITS.ensures)
    (sum_room g.Word.Natural.BITS c.args.count (g.Word.Natural.number c.self.inside.word) (g.Word.Natural.number c.args.bits) (omega (arith, c.requires.part)) (g.met.Word.Natural.number_law c.self.inside.word) c.requires.small)

pub overflow_sub-self : goal.overflow_sub-self
overflow_sub-self g c = put_fits g.Word.Natural.BITS c.self.inside.room c.args.count c.self.invariant (rw (← c.self.view_is, length_bits) at c.requires.fits)

pub returns : goal.returns
returns g c =
    let n = g.Word.Natural.number in
    let b = g.Word.Natural.BITS in
    let is = rw (c.shift_right.ensures, c.shift_left-above.ensures, c.BITS.ensures) at c.plus-self-inside.ensures in
    rw (← c.self.view_is)
    (all_at_top b c.self.inside.room c.args.count (n c.self.inside.word) (n c.args.bits) (n c.plus-self-inside.result) c.self.invariant
    (put_fits b c.self.inside.room c.args.count c.self.invariant (rw (← c.self.view_is, length_bits) at c.requires.fits)) (g.met.Word.Natural.number_law c.self.inside.word) is)
