use Rattle.std.proofs.Common.{◌-◌, ◌/◌, ◌^◌, reverse, take, length}
use Rattle.constriction_symbol.specs.Bits.{bits_of}
use Rattle.constriction_symbol.proofs.TakenAtOnce.{last_given}
use Rattle.constriction_symbol.proofs.WordLemmas.{stack_ends_top}
use Rattle.constriction_symbol.proofs.reading.StackCoderReadBitStreamStack.decode_symbol.Goals as goal

pub returns-in-Some : goal.returns-in-Some
returns-in-Some g c =
    let n = g.Word.Natural.number c.top_word-bits.result in
    let begun = c.in-Some.ensures in
    let last = c.self.inside.last in
    let code = reverse (bits_of c.in-Some.count (n / 2 ^ (g.Word.Natural.BITS - c.in-Some.count))) in (
      code,
      begun.is,
      rw (← c.self.view_is)
          (last_given g.Word.Natural.BITS g.Word.Natural.number g.B.Holds.is_list g.B.ReadWords.reads g.B.Holds.words c.self.inside.backend code last (take (length last - c.in-Some.count) last) c.drop_last.new.self
          (stack_ends_top last n g.Word.Natural.BITS c.count.result c.in-Some.count c.count.ensures.value c.top_word-bits.ensures.within begun.part c.top_word-bits.ensures.bits) c.drop_last.ensures),
    )
