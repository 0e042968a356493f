use Rattle.std.proofs.Common.{◌≡◌, length, arith}
use Rattle.constriction_symbol.proofs.Equal.{same_reversed_bits}
use Rattle.constriction_symbol.proofs.equality.WordBitsPartialEq.eq.Goals as goal

pub returns-then-count : goal.returns-then-count
returns-then-count g c =
    let number = g.Word.Natural.number in
    let long : length c.args.self.now ≡ length c.args.other.now = grind (arith, c.if-count.true, c.count.ensures.value, c.count-2.ensures.value) in
    same_reversed_bits c.args.self.now c.args.other.now (number c.reversed_word.result) (number c.reversed_word-then-count.result) c.is_same_word.result long
    c.reversed_word.ensures.bits c.reversed_word.ensures.small c.reversed_word-then-count.ensures.bits c.reversed_word-then-count.ensures.small c.is_same_word.ensures
