use Rattle.std.proofs.Common.{rules, ◌≡◌}
use Rattle.std.specs.Prelude.{reverse}
use Rattle.constriction_base.proofs.Turns.{drop_turned, take_turned}
use Rattle.constriction_base.proofs.cursor.Cursor.reverse_buffer.Goals as goal

pub returns-clause-stack : goal.returns-clause-stack
returns-clause-stack g c =
    let lent = g.Buf.Words.lent in
    let turned : lent c.reverse_words.new.self ≡ reverse (lent c.args.self.buf) = search rules in
    search (rules, drop_turned c.args.self.pos (lent c.args.self.buf) (lent c.reverse_words.new.self) turned)

pub returns-clause-queue : goal.returns-clause-queue
returns-clause-queue g c =
    let lent = g.Buf.Words.lent in
    let turned : lent c.reverse_words.new.self ≡ reverse (lent c.args.self.buf) = search rules in
    search (rules, take_turned c.args.self.pos (lent c.args.self.buf) (lent c.reverse_words.new.self) turned)
