use Rattle.std.proofs.Common.{rules, arith, ap, ◌≤◌, ◌≡◌, length}
use Rattle.constriction_lower_tests.proofs.Taken.{moved_back}
use Rattle.constriction_lower_tests.proofs.base.two_for_one.two_for_one_before.Goals as goal

-- the first write finds the place of the word that was read
pub returns-in-Err-First-clause-beginning : goal.returns-in-Err-First-clause-beginning
returns-in-Err-First-clause-beginning c =
    let fits : c.args.words.now.pos ≤ length c.args.words.now.buf.now = c.buf-buf.ensures.within in
    let d = c.two_for_one.ensures.first c.in-Err-First.error (search rules) in
    let m = moved_back (Unit {0}) c.args.words.now.buf.now d.1.0.buf.now c.args.words.now.pos d.1.0.pos d.1.1 (ap (λ b. b.now) d.1.2.1) c.requires fits d.1.2.0 in
    absurd (omega (arith, m.0, m.1, m.2, d.1.4))

pub returns-in-Err-First-clause-full : goal.returns-in-Err-First-clause-full
returns-in-Err-First-clause-full c =
    let fits : c.args.words.now.pos ≤ length c.args.words.now.buf.now = c.buf-buf.ensures.within in
    let d = c.two_for_one.ensures.first c.in-Err-First.error (search rules) in
    let m = moved_back (Unit {0}) c.args.words.now.buf.now d.1.0.buf.now c.args.words.now.pos d.1.0.pos d.1.1 (ap (λ b. b.now) d.1.2.1) c.requires fits d.1.2.0 in
    absurd (omega (arith, m.0, m.1, m.2, d.1.4))

-- the second is refused where the word that was read stood at the end
pub returns-in-Err-Second-clause-full : goal.returns-in-Err-Second-clause-full
returns-in-Err-Second-clause-full c =
    let fits : c.args.words.now.pos ≤ length c.args.words.now.buf.now = c.buf-buf.ensures.within in
    let d = c.two_for_one.ensures.second c.in-Err-Second.error (search rules) in
    let m = moved_back (Unit {0}) c.args.words.now.buf.now d.1.0.buf.now c.args.words.now.pos d.1.0.pos d.1.2 (ap (λ b. b.now) d.1.3.1) c.requires fits d.1.3.0 in
    (d.1.4.0, omega (arith, fits, m.0, m.1, m.2, d.1.5))
