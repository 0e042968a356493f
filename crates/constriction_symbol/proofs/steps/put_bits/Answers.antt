use Rattle.std.proofs.Common.{arith, inl, refl, length, ◌+◌, ◌≤◌}
use Rattle.constriction_symbol.specs.Bits.{bits_of}
use Rattle.constriction_symbol.proofs.Coding.{length_bits}
use Rattle.constriction_symbol.proofs.steps.put_bits.Goals as goal

pub returns-then-count-room : goal.returns-then-count-room
returns-then-count-room g c =
    let n = g.Word.Natural.number c.args.bits in
    let fits : length c.args.last.now + length (bits_of c.args.count n) ≤ g.Word.Natural.BITS = omega (arith, c.if-count-room.true, c.room.ensures, length_bits c.args.count n) in
    inl (fits, c.push_all.ensures, refl)
