use Rattle.std.proofs.Common.{◌≡◌, ◌<◌, ◌++◌, ◌∷◌, [], ap, arith, length, length-append, reverse, true, ◌∙◌}
use Rattle.std.proofs.lemmas.List.{reverse-reverse}
use Rattle.constriction_symbol.proofs.Coding.{stack_closed, bit_after, bit_after_flush}
use Rattle.constriction_symbol.proofs.coder.guard.StackCoder+Word+Vec+Word+A.put_end.Goals as goal

pub returns-clause-shows : goal.returns-clause-shows
returns-clause-shows g c =
    let w = g.Word.Natural.BITS in
    let last = c.push-2.new.self in
    let more : last ≡ c.self.inside.last ++ true ∷ [] = rw c.copied-last.ensures at c.push-2.ensures in
    let some : 0 < length last = rw more (omega (arith, length-append c.self.inside.last (true ∷ []))) in
    let ends = bit_after _ c.self.inside.last last true more in
    let closed = stack_closed w g.Word.Natural.number (reverse c.self.inside.backend.items) (reverse c.write-2.new.self.items) last c.word-2.result _ c.word-2.ensures.bits c.word-2.ensures.small c.word-2.ensures.within some c.in_ok-write-3.ensures.ok ends in
    rw (← c.self.view_is) (rw (reverse-reverse c.write-2.new.self.items) at closed)

pub returns-then-is_full-clause-shows : goal.returns-then-is_full-clause-shows
returns-then-is_full-clause-shows g c =
    let w = g.Word.Natural.BITS in
    let number = g.Word.Natural.number in
    let last = c.push.new.self in
    let begun : last ≡ true ∷ [] = rw c.none-end.ensures at c.push.ensures in
    let some : 0 < length last = rw begun (omega arith) in
    let full : length c.self.inside.last ≡ w = rw c.copied-last.ensures at (c.is_full.ensures.full.0 c.if-is_full.true) in
    let has = rw (c.copied-last.ensures, full) at c.word.ensures.bits in
    let first : reverse c.write.new.self.items ≡ c.word.result ∷ reverse c.self.inside.backend.items = c.in_ok-write.ensures.ok ∙ ap (λ ws. c.word.result ∷ ws) c.in_ok-prepare.ensures.words in
    let ends = bit_after_flush w number (reverse c.self.inside.backend.items) (reverse c.write.new.self.items) c.word.result c.self.inside.last last true has begun first in
    let closed = stack_closed w number (reverse c.write.new.self.items) (reverse c.write-then-is_full.new.self.items) last c.word-then-is_full.result _ c.word-then-is_full.ensures.bits c.word-then-is_full.ensures.small c.word-then-is_full.ensures.within some c.in_ok-write-2.ensures.ok ends in
    rw (← c.self.view_is) (rw (reverse-reverse c.write-then-is_full.new.self.items) at closed)
