use Rattle.std.proofs.Common.{arith, sym, ◌∙◌}
use Rattle.constriction_symbol.proofs.Lengths.{empty_above, empty_parts}
use Rattle.constriction_symbol.proofs.coder.SymbolCoder.is_empty.Goals as goal

pub returns-then-is_empty : goal.returns-then-is_empty
returns-then-is_empty g c =
    let number = g.Word.Natural.number in
    let words = g.B.Holds.words c.self.inside.backend in
    let none = c.is_empty.ensures.0 c.if-is_empty.true in
    rw (← c.self.view_is) (
      λ is. empty_above g.Word.Natural.BITS number words c.self.inside.last (sym c.is_exhausted.ensures ∙ is) none,
      λ empty. c.is_exhausted.ensures ∙ (empty_parts g.Word.Natural.BITS number words c.self.inside.last (omega (arith, g.met.Word.Natural.bits_law.0)) empty).0,
    )

pub returns-else-is_empty : goal.returns-else-is_empty
returns-else-is_empty g c =
    let number = g.Word.Natural.number in
    let words = g.B.Holds.words c.self.inside.backend in
    rw (← c.self.view_is) (
      λ is. let clear = c.if-is_empty.false in absurd cc,
      λ empty. c.is_empty.ensures.1 (empty_parts g.Word.Natural.BITS number words c.self.inside.last (omega (arith, g.met.Word.Natural.bits_law.0)) empty).1,
    )
