use Rattle.constriction_symbol.proofs.Coding.{puts_bits}
use Rattle.constriction_symbol.proofs.ReversedCodewords.{refused_by, refused_full}
use Rattle.constriction_symbol.proofs.reversed.put.Goals as goal

pub returns-clause-bits : goal.returns-clause-bits
returns-clause-bits g c =
    rw (← c.stack.view_is) (puts_bits g.Word.Natural.BITS g.Word.Natural.number g.B.Holds.words g.B.WriteWords.room g.B.WriteWords.writes g.B.WriteWords.write_fails _ _ _ _ _ _ c.put_last.ensures)

pub returns-clause-err : goal.returns-clause-err
returns-clause-err g c =
    rw (← c.stack.view_is) (refused_by g.Word.Natural.BITS g.Word.Natural.number g.B.Holds.words g.B.WriteWords.room g.B.WriteWords.writes g.B.WriteWords.write_fails _ _ _ _ _ _ c.put_last.ensures)

pub returns-clause-full : goal.returns-clause-full
returns-clause-full g c =
    rw (← c.stack.view_is) (refused_full g.Word.Natural.BITS g.Word.Natural.number g.B.Holds.words g.B.WriteWords.room g.B.WriteWords.writes g.B.WriteWords.write_fails _ _ _ _ _ _ c.put_last.ensures)
