use Rattle.std.proofs.Common.{sym, arith}
use Rattle.constriction_symbol.proofs.Lengths.{length_above}
use Rattle.constriction_symbol.proofs.coder.SymbolCoder.len.Goals as goal

pub returns : goal.returns
returns g c =
    rw (← c.self.view_is, c.remaining.ensures, c.BITS.ensures, c.count.ensures.value)
    (sym (length_above g.Word.Natural.BITS g.Word.Natural.number (g.B.Holds.words c.self.inside.backend) c.self.inside.last))

pub overflow_add-result : goal.overflow_add-result
overflow_add-result g c =
    let all = rw (← c.self.view_is, length_above g.Word.Natural.BITS g.Word.Natural.number (g.B.Holds.words c.self.inside.backend) c.self.inside.last) at c.requires in
    rw (c.remaining.ensures, c.BITS.ensures, c.count.ensures.value) (omega (arith, all))

pub overflow_mul-result : goal.overflow_mul-result
overflow_mul-result g c =
    let all = rw (← c.self.view_is, length_above g.Word.Natural.BITS g.Word.Natural.number (g.B.Holds.words c.self.inside.backend) c.self.inside.last) at c.requires in
    rw (c.remaining.ensures, c.BITS.ensures) (omega (arith, all))
