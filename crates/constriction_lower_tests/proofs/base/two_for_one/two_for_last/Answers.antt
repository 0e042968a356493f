use Rattle.std.proofs.Common.{rules, Some, inr}
use Rattle.constriction_lower_tests.proofs.Taken.{put_back}
use Rattle.constriction_lower_tests.proofs.base.two_for_one.two_for_last.Goals as goal

-- the word is put back
pub returns-in-Err-Prepare-Some-default-clause-memory :
    goal.returns-in-Err-Prepare-Some-default-clause-memory
returns-in-Err-Prepare-Some-default-clause-memory g c =
    let i = c.in-Err-Prepare-Some-default in
    let d = c.two_for_one.ensures.prepare (Some i.taken) i.error (search rules) in
    search (rules, put_back c.args.words.now.items c.two_for_one.new.backend.items _ i.taken d.1.1.0 d.0)

-- after a `prepare` no write is refused
pub returns-in-Err-Second-clause-memory : goal.returns-in-Err-Second-clause-memory
returns-in-Err-Second-clause-memory g c =
    absurd (c.two_for_one.ensures.made tt c.in-Err-Second.error (inr (search rules)))
