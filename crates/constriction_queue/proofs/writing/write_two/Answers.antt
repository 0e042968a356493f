use Rattle.std.proofs.Common.{[], ◌∷◌, arith}
use Rattle.constriction_base.proofs.Written.{appended}
use Rattle.constriction_queue.proofs.Owed.{one_write, one_written, then_all}
use Rattle.constriction_queue.proofs.writing.write_two.Goals as goal

pub returns-clause-written : goal.returns-clause-written
returns-clause-written g c =
    let number = g.Word.Natural.number in
    let holds = g.Backend.Holds in
    let writes = g.Backend.WriteWords in
    let first = number c.args.first ∷ [] in
    let second = number c.in-Some.second ∷ [] in
    let made = c.in_ok-prepare-2.ensures in
    let one = c.in_ok-write.ensures in
    let two = c.write-3.ensures in
    rw c.in-Some.is (appended number holds writes (number c.in-Some.second ∷ first) _ _ _ _ (record { words = made.words; room = made.room; made = made.made; fails = made.fails }) (omega arith)
    (then_all number holds writes first second _ _ _ _ (one_written number holds writes c.args.first _ _ one.writes one.ok one.room)
    (one_write number holds writes g.met.Backend.WriteWords.room_law c.in-Some.second _ _ _ two.writes two.ok two.room two.kept two.err)))
