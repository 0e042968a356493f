use Rattle.std.proofs.Common.{true, Ok, inr}
use Rattle.constriction_base.specs.Backends.{IsWrite}
use Rattle.constriction_symbol.proofs.Coding.{stack_closed, put_some, puts_bits, word_padded}
use Rattle.constriction_symbol.proofs.coder.words.StackCoder+Word+B.into_compressed.Goals as goal

pub returns-in-Ok-clause-ok : goal.returns-in-Ok-clause-ok
returns-in-Ok-clause-ok g c =
    let w = g.Word.Natural.BITS in
    let number = g.Word.Natural.number in
    let last = c.put_last.new.last in
    let some = put_some {E = g.row.B-WriteError.Denot} w number (IsWrite g.B.Holds.words g.B.WriteWords.room g.B.WriteWords.writes g.B.WriteWords.write_fails) c.self.inside.last last c.self.inside.backend c.put_last.new.backend true c.in_ok-put_last.ensures in
    let put = puts_bits {E = g.row.B-WriteError.Denot} w number g.B.Holds.words g.B.WriteWords.room g.B.WriteWords.writes g.B.WriteWords.write_fails c.self.inside.last last c.self.inside.backend c.put_last.new.backend true (Ok tt) c.in_ok-put_last.ensures in
    rw (← c.self.view_is)
    (stack_closed w number (g.B.Holds.words c.put_last.new.backend) (g.B.Holds.words c.write.new.self) last c.word.result _ c.word.ensures.bits c.word.ensures.small c.word.ensures.within some c.in-Ok.ensures.ok put)

pub returns-in-Ok-clause-closes : goal.returns-in-Ok-clause-closes
returns-in-Ok-clause-closes g c =
    let w = g.Word.Natural.BITS in
    let number = g.Word.Natural.number in
    let last = c.put_last.new.last in
    let some = put_some {E = g.row.B-WriteError.Denot} w number (IsWrite g.B.Holds.words g.B.WriteWords.room g.B.WriteWords.writes g.B.WriteWords.write_fails) c.self.inside.last last c.self.inside.backend c.put_last.new.backend true c.in_ok-put_last.ensures in
    let padded = word_padded w last (number c.word.result) c.word.ensures.bits c.word.ensures.small c.word.ensures.within some in
    rw (← c.self.view_is)
    (last, c.put_last.new.backend, c.in_ok-put_last.ensures, (c.word.result, padded, (c.in-Ok.ensures.ok, c.in-Ok.ensures.room, c.in-Ok.ensures.writes)))

pub returns-in-Err-clause-closes : goal.returns-in-Err-clause-closes
returns-in-Err-clause-closes g c =
    let w = g.Word.Natural.BITS in
    let number = g.Word.Natural.number in
    let last = c.put_last.new.last in
    let some = put_some {E = g.row.B-WriteError.Denot} w number (IsWrite g.B.Holds.words g.B.WriteWords.room g.B.WriteWords.writes g.B.WriteWords.write_fails) c.self.inside.last last c.self.inside.backend c.put_last.new.backend true c.in_ok-put_last.ensures in
    let padded = word_padded w last (number c.word.result) c.word.ensures.bits c.word.ensures.small c.word.ensures.within some in
    rw (← c.self.view_is)
    (inr (last, c.put_last.new.backend, c.write.new.self, c.in_ok-put_last.ensures, (c.word.result, padded, (c.in-Err.ensures.kept, c.in-Err.ensures.err, c.in-Err.ensures.writes))))
