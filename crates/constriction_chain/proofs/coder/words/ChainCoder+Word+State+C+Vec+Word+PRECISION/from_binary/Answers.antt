use Rattle.std.proofs.Common.{rules, arith, refl, ◌-◌}
use Rattle.constriction_base.proofs.Exporting.{base_two}
use Rattle.constriction_chain.proofs.Chains.{coder_of}
use Rattle.constriction_chain.proofs.Moving.{binary_begin, window_filled, word_below}
use Rattle.constriction_chain.proofs.coder.words.ChainCoder+Word+State+C+Vec+Word+PRECISION.from_binary.Goals as goal

pub fill-requires-clause-some : goal.fill-requires-clause-some
fill-requires-clause-some g c = rw c.unit.ensures (omega arith)

pub of-requires : goal.of-requires
of-requires g c =
    let w = g.Word.Natural.BITS in
    let moved = rw (c.if-full.true, c.BITS.ensures, c.BITS-2.ensures, c.unit.ensures) at c.in-Ok.ensures.moves in
    let below = rw (c.BITS.ensures, c.BITS-2.ensures, c.unit.ensures) at c.in-Ok.ensures.below in
    let two = base_two w c.requires.sizes.some_bits in
    let window = window_filled w (g.State.Natural.BITS - w - g.row.PRECISION) _ moved.1 (below (word_below w _ 1 (omega (arith, two)))) in
    (search rules, (c.requires, (rw c.unit-then-full.ensures (omega arith), window)))

pub returns-then-full-clause-ok : goal.returns-then-full-clause-ok
returns-then-full-clause-ok g c =
    let moved = rw (c.if-full.true, c.BITS.ensures, c.BITS-2.ensures, c.unit.ensures) at c.in-Ok.ensures.moves in
    rw (c.of.ensures, c.unit-then-full.ensures) (refl, search rules, λ list. binary_begin g.Word.Natural.number g.C.Holds g.C.ReadWords _ _ _ _ g.met.Word.Natural.number_law moved.0 list)

pub returns-then-full-clause-reads : goal.returns-then-full-clause-reads
returns-then-full-clause-reads g c =
    let moved = rw (c.if-full.true, c.BITS.ensures, c.BITS-2.ensures, c.unit.ensures) at c.in-Ok.ensures.moves in
    rw c.of.ensures moved.0

pub returns-then-full-clause-coder : goal.returns-then-full-clause-coder
returns-then-full-clause-coder g c =
    let law = g.met.Word.Natural.number_law in
    let w = g.Word.Natural.BITS in
    let moved = rw (c.if-full.true, c.BITS.ensures, c.BITS-2.ensures, c.unit.ensures) at c.in-Ok.ensures.moves in
    let below = rw (c.BITS.ensures, c.BITS-2.ensures, c.unit.ensures) at c.in-Ok.ensures.below in
    let two = base_two w c.requires.sizes.some_bits in
    let window = window_filled w (g.State.Natural.BITS - w - g.row.PRECISION) _ moved.1 (below (word_below w _ 1 (omega (arith, two)))) in
    rw c.of.ensures (coder_of _ _ _ g.Word.Natural.number law _ _ _ _ _ _ c.requires (rw c.unit-then-full.ensures (omega arith)) (law _) window)

pub returns-else-full-clause-err : goal.returns-else-full-clause-err
returns-else-full-clause-err g c = (_, rw (c.if-full.false, c.BITS.ensures, c.BITS-2.ensures, c.unit.ensures) at c.in-Ok.ensures.moves)

pub returns-in-Err-clause-err : goal.returns-in-Err-clause-err
returns-in-Err-clause-err g c =
    let stop = rw (c.BITS.ensures, c.BITS-2.ensures, c.unit.ensures) at c.in-Err.ensures.moves in
    (_, stop.0, stop.1)
