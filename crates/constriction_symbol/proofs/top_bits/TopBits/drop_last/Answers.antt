use Rattle.std.proofs.Common.{◌-◌, ◌/◌, ◌^◌, arith}
use Rattle.constriction_symbol.proofs.Coding.{length_bits}
use Rattle.constriction_symbol.proofs.TopLemmas.{some_less, left_room, taken_fits}
use Rattle.constriction_symbol.proofs.top_bits.TopBits.drop_last.Goals as goal

pub overflow_sub-BITS : goal.overflow_sub-BITS
overflow_sub-BITS g c =
    let all = taken_fits g.Word.Natural.BITS c.self.inside.room c.args.count c.self.invariant (rw (← c.self.view_is, length_bits) at c.requires.within) in
    rw c.BITS.ensures all.1

pub shift_left-self-inside-requires-clause-within : goal.shift_left-self-inside-requires-clause-within
shift_left-self-inside-requires-clause-within g c =
    (taken_fits g.Word.Natural.BITS c.self.inside.room c.args.count c.self.invariant (rw (← c.self.view_is, length_bits) at c.requires.within)).2

pub shift_left-self-inside-requires-clause-fits : goal.shift_left-self-inside-requires-clause-fits
shift_left-self-inside-requires-clause-fits g c =
    let all = taken_fits g.Word.Natural.BITS c.self.inside.room c.args.count c.self.invariant (rw (← c.self.view_is, length_bits) at c.requires.within) in
    left_room g.Word.Natural.BITS c.args.count (g.Word.Natural.number c.self.inside.word) (g.Word.Natural.number c.low_bits.result) all.1 (rw c.BITS.ensures at c.low_bits.ensures)

pub overflow_add-self : goal.overflow_add-self
overflow_add-self g c =
    let all = taken_fits g.Word.Natural.BITS c.self.inside.room c.args.count c.self.invariant (rw (← c.self.view_is, length_bits) at c.requires.within) in
    omega (arith, all.0, g.met.Word.Natural.bits_law.1)

pub invariant_of-self : goal.invariant_of-self
invariant_of-self g c =
    (taken_fits g.Word.Natural.BITS c.self.inside.room c.args.count c.self.invariant (rw (← c.self.view_is, length_bits) at c.requires.within)).0

pub returns : goal.returns
returns g c =
    let n = g.Word.Natural.number in
    let b = g.Word.Natural.BITS in
    let all = taken_fits b c.self.inside.room c.args.count c.self.invariant (rw (← c.self.view_is, length_bits) at c.requires.within) in
    let low = rw c.BITS.ensures at c.low_bits.ensures in
    rw (← c.self.view_is, length_bits (b - c.self.inside.room) (n c.self.inside.word / 2 ^ c.self.inside.room))
    (some_less b c.self.inside.room c.args.count (n c.self.inside.word) (n c.shift_left-self-inside.result) all.0 (rw low at c.shift_left-self-inside.ensures))
