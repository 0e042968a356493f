use Rattle.std.proofs.Common.{refl, inl, inr, pow_pos, ◌-◌}
use Rattle.constriction_base.proofs.Exporting.{some_of}
use Rattle.constriction_chain.proofs.Moving.{begins_none, begins_of, window_filled, word_below}
use Rattle.constriction_chain.proofs.moves.begin_window.Goals as goal

pub returns-in-Err-clause-err : goal.returns-in-Err-clause-err
returns-in-Err-clause-err g c =
    (_, (_, _, begins_none g.Word.Natural.number g.B.Holds g.B.ReadWords g.Word.Natural.BITS c.args.source.now, pow_pos _, (c.in-Err.ensures.reads, c.in-Err.ensures.words)))

pub returns-in-Ok-None-clause-none : goal.returns-in-Ok-None-clause-none
returns-in-Ok-None-clause-none g c =
    let reads = rw c.in-Ok-None.field-0-is at c.in-Ok-None.ensures.reads in
    let none = rw c.in-Ok-None.field-0-is at c.in-Ok-None.ensures.words in
    inr (_, _, begins_none g.Word.Natural.number g.B.Holds g.B.ReadWords g.Word.Natural.BITS c.args.source.now, pow_pos _, (reads, none))

pub returns-then-is_nothing-clause-none : goal.returns-then-is_nothing-clause-none
returns-then-is_nothing-clause-none g c =
    let reads = rw c.in-Ok-Some.field-0-is at c.in-Ok-Some.ensures.reads in
    let top = rw c.in-Ok-Some.field-0-is at c.in-Ok-Some.ensures.words in
    inl (c.in-Ok-Some.word, c.if-is_nothing.ensures.0 refl, (reads, top))

pub returns-then-full-clause-ok : goal.returns-then-full-clause-ok
returns-then-full-clause-ok g c =
    let w = g.Word.Natural.BITS in
    let reads = rw c.in-Ok-Some.field-0-is at c.in-Ok-Some.ensures.reads in
    let top = rw c.in-Ok-Some.field-0-is at c.in-Ok-Some.ensures.words in
    let some = some_of _ c.if-is_nothing.ensures.1 in
    let moved = rw (c.if-full.true, c.BITS.ensures, c.BITS-2.ensures, c.widen.ensures) at c.in-Ok.ensures.moves in
    begins_of g.Word.Natural.number g.B.Holds g.B.ReadWords w _ c.args.source.now c.read.new.self c.fill.new.bulk c.in-Ok-Some.word reads top some moved.0

pub returns-then-full-clause-window : goal.returns-then-full-clause-window
returns-then-full-clause-window g c =
    let w = g.Word.Natural.BITS in
    let moved = rw (c.if-full.true, c.BITS.ensures, c.BITS-2.ensures, c.widen.ensures) at c.in-Ok.ensures.moves in
    let below = rw (c.BITS.ensures, c.BITS-2.ensures, c.widen.ensures) at c.in-Ok.ensures.below in
    window_filled w (g.State.Natural.BITS - w - c.args.precision) _ moved.1 (below (word_below w _ _ (g.met.Word.Natural.number_law _)))

pub returns-else-full-clause-none : goal.returns-else-full-clause-none
returns-else-full-clause-none g c =
    let reads = rw c.in-Ok-Some.field-0-is at c.in-Ok-Some.ensures.reads in
    let top = rw c.in-Ok-Some.field-0-is at c.in-Ok-Some.ensures.words in
    let some = some_of _ c.if-is_nothing.ensures.1 in
    let few = rw (c.if-full.false, c.BITS.ensures, c.BITS-2.ensures, c.widen.ensures) at c.in-Ok.ensures.moves in
    inr (_, few.last, begins_of g.Word.Natural.number g.B.Holds g.B.ReadWords g.Word.Natural.BITS _ c.args.source.now c.read.new.self few.last c.in-Ok-Some.word reads top some few.moved, few.low, few.read)

pub returns-in-Err-fill-clause-err : goal.returns-in-Err-fill-clause-err
returns-in-Err-fill-clause-err g c =
    let reads = rw c.in-Ok-Some.field-0-is at c.in-Ok-Some.ensures.reads in
    let top = rw c.in-Ok-Some.field-0-is at c.in-Ok-Some.ensures.words in
    let some = some_of _ c.if-is_nothing.ensures.1 in
    let stop = rw (c.BITS.ensures, c.BITS-2.ensures, c.widen.ensures) at c.in-Err-fill.ensures.moves in
    let few = stop.1 in
    (_, (stop.0, few.last, begins_of g.Word.Natural.number g.B.Holds g.B.ReadWords g.Word.Natural.BITS stop.0 c.args.source.now c.read.new.self few.last c.in-Ok-Some.word reads top some few.moved, few.low, few.read))
