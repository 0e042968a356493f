use Rattle.constriction_queue.proofs.Seals.{carried_held}
use Rattle.constriction_queue.proofs.seal.release_pending.Goals as goal

pub returns-in-Inverted-clause-words : goal.returns-in-Inverted-clause-words
returns-in-Inverted-clause-words g c words all =
    let first = rw c.in-Inverted.is at c.requires.carry in
    rw c.in-Inverted.is (carried_held _ _ _ c.args.carry _ words first all c.add_carry.ensures)
