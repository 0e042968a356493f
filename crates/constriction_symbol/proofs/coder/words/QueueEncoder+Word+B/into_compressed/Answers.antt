use Rattle.std.proofs.Common.{◌≡◌, [], inr}
use Rattle.constriction_symbol.proofs.Coding.{queue_closed, some_bits, word_padded}
use Rattle.constriction_symbol.proofs.coder.words.QueueEncoder+Word+B.into_compressed.Goals as goal

pub returns-in-Ok-clause-ok : goal.returns-in-Ok-clause-ok
returns-in-Ok-clause-ok g c =
    let some : c.self.inside.last ≡ [] → ⊥ = λ none. let clear = c.if-is_empty.false in let is = c.is_empty.ensures.1 none in cc in
    rw (← c.self.view_is)
    (queue_closed g.Word.Natural.BITS g.Word.Natural.number (g.B.Holds.words c.self.inside.backend) (g.B.Holds.words c.write.new.self) c.self.inside.last c.word.result c.word.ensures.bits c.word.ensures.small c.word.ensures.within some c.in-Ok.ensures.ok)

pub returns-in-Ok-clause-closes : goal.returns-in-Ok-clause-closes
returns-in-Ok-clause-closes g c =
    let some : c.self.inside.last ≡ [] → ⊥ = λ none. let clear = c.if-is_empty.false in let is = c.is_empty.ensures.1 none in cc in
    let padded = word_padded g.Word.Natural.BITS c.self.inside.last (g.Word.Natural.number c.word.result) c.word.ensures.bits c.word.ensures.small c.word.ensures.within (some_bits c.self.inside.last some) in
    rw (← c.self.view_is) (inr (some, (c.word.result, padded, (c.in-Ok.ensures.ok, c.in-Ok.ensures.room, c.in-Ok.ensures.writes))))

pub returns-in-Err-clause-closes : goal.returns-in-Err-clause-closes
returns-in-Err-clause-closes g c =
    let some : c.self.inside.last ≡ [] → ⊥ = λ none. let clear = c.if-is_empty.false in let is = c.is_empty.ensures.1 none in cc in
    let padded = word_padded g.Word.Natural.BITS c.self.inside.last (g.Word.Natural.number c.word.result) c.word.ensures.bits c.word.ensures.small c.word.ensures.within (some_bits c.self.inside.last some) in
    rw (← c.self.view_is) (some, c.write.new.self, (c.word.result, padded, (c.in-Err.ensures.kept, c.in-Err.ensures.err, c.in-Err.ensures.writes)))
