use Rattle.constriction_symbol.proofs.Coding.{stack_opened}
use Rattle.constriction_symbol.proofs.coder.words.StackCoder+Word+B.from_compressed.Goals as goal

pub returns-clause-ok : goal.returns-clause-ok
returns-clause-ok g c = λ known.
    let was = rw c.in-Ok-Some.field-0-is at (c.in-Ok-Some.ensures.words known) in
    stack_opened g.Word.Natural.BITS g.Word.Natural.number (g.B.Holds.words c.args.compressed) (g.B.Holds.words c.read.new.self) c.in-Some.last c.in-Ok-Some.word c.in-Some.ensures was
