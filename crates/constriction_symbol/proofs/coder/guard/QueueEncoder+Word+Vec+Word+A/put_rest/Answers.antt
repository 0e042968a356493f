use Rattle.std.proofs.Common.{◌≡◌, [], reverse}
use Rattle.std.proofs.lemmas.List.{reverse-reverse}
use Rattle.constriction_symbol.proofs.Coding.{queue_closed}
use Rattle.constriction_symbol.proofs.coder.guard.QueueEncoder+Word+Vec+Word+A.put_rest.Goals as goal

pub returns-clause-shows : goal.returns-clause-shows
returns-clause-shows g c =
    let some : c.self.inside.last ≡ [] → ⊥ = λ none. let clear = c.if-is_empty.false in let is = c.is_empty.ensures.1 none in cc in
    let closed = queue_closed g.Word.Natural.BITS g.Word.Natural.number (reverse c.self.inside.backend.items) (reverse c.write.new.self.items) c.self.inside.last c.word.result c.word.ensures.bits c.word.ensures.small c.word.ensures.within some c.in_ok-write.ensures.ok in
    rw (← c.self.view_is) (rw (reverse-reverse c.write.new.self.items) at closed)
