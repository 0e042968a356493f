use Rattle.std.proofs.Common.{◌≡◌, length, arith}
use Rattle.constriction_symbol.proofs.Equal.{same_bits}
use Rattle.constriction_symbol.proofs.equality.TopBitsPartialEq.eq.Goals as goal

pub returns-then-count : goal.returns-then-count
returns-then-count g c =
    let number = g.Word.Natural.number in
    let long : length c.args.self.now ≡ length c.args.other.now = grind (arith, c.if-count.true, c.count.ensures.value, c.count-2.ensures.value) in
    same_bits c.args.self.now c.args.other.now (number c.word.result) (number c.word-then-count.result) c.is_same_word.result long
    c.word.ensures.bits c.word.ensures.small c.word-then-count.ensures.bits c.word-then-count.ensures.small c.is_same_word.ensures
