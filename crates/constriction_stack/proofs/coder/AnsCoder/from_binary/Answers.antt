use Rattle.std.proofs.Common.{sym}
use Rattle.constriction_base.proofs.Sizes.{facts}
use Rattle.constriction_stack.proofs.Moved.{ended_binary, ended_state, refused_binary}
use Rattle.constriction_stack.proofs.coder.AnsCoder.from_binary.Goals as goal

pub returns-clause-ok : goal.returns-clause-ok
returns-clause-ok g c = λ list.
    let w = g.Word.Natural.BITS in
    let s = g.State.Natural.BITS in
    let moved = rw (c.unit.ensures, c.BITS.ensures, c.BITS-2.ensures) at c.in-Ok.ensures.moves in
    sym (ended_state g.Word.Natural.number g.Backend.Holds g.Backend.ReadWords w s _ 1 _ c.args.bulk c.fill.new.bulk (facts w s c.requires) (g.met.State.Natural.number_law _) moved list)

pub returns-clause-reads : goal.returns-clause-reads
returns-clause-reads g c =
    let moved = rw (c.unit.ensures, c.BITS.ensures, c.BITS-2.ensures) at c.in-Ok.ensures.moves in
    ended_binary g.Word.Natural.number g.Backend.Holds g.Backend.ReadWords g.Word.Natural.BITS g.State.Natural.BITS _ _ c.args.bulk c.fill.new.bulk moved

pub returns-in-Err-clause-err : goal.returns-in-Err-clause-err
returns-in-Err-clause-err g c =
    let refused = rw (c.unit.ensures, c.BITS.ensures, c.BITS-2.ensures) at c.in-Err.ensures.moves in
    refused_binary g.Word.Natural.number g.Backend.Holds g.Backend.ReadWords g.Word.Natural.BITS g.State.Natural.BITS refused.0 c.args.bulk c.fill.new.bulk c.in-Err.error refused.1
