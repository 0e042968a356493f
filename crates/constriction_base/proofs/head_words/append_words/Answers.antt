use Rattle.std.specs.Prelude.{◌^◌, Ok, Err}
use Rattle.std.proofs.Common.{arith, inr, sym}
use Rattle.constriction_base.specs.Digits.{fixed_digits}
use Rattle.constriction_base.proofs.Guards.{fixed-length}
use Rattle.constriction_base.proofs.Results.{mapped, refused}
use Rattle.constriction_base.proofs.Written.{appended, not_prepared, prepared, stopped}
use Rattle.constriction_base.proofs.head_words.append_words.Goals as goal

pub returns-in-Err-clause-written : goal.returns-in-Err-clause-written
returns-in-Err-clause-written g c =
    let owed = fixed_digits (2 ^ g.Word.Natural.BITS) c.args.count (g.State.Natural.number c.args.head) in
    let len = fixed-length (2 ^ g.Word.Natural.BITS) c.args.count (g.State.Natural.number c.args.head) in
    not_prepared g.Word.Natural.number g.Backend.Holds g.Backend.WriteWords g.met.Backend.WriteWords.prepare_law owed c.args.bulk.now c.prepare.new.self c.in-Err.error
    (rw len c.in-Err.ensures.err) c.prepare.ensures.words (omega (arith, len))

pub returns-clause-written : goal.returns-clause-written
returns-clause-written g c =
    let owed = fixed_digits (2 ^ g.Word.Natural.BITS) c.args.count (g.State.Natural.number c.args.head) in
    let len = fixed-length (2 ^ g.Word.Natural.BITS) c.args.count (g.State.Natural.number c.args.head) in
    let ready = prepared g.Word.Natural.number g.Backend.Holds g.Backend.WriteWords owed c.args.count _ _ (sym len) c.prepare.ensures.words c.in-Ok.ensures.room c.in-Ok.ensures.made c.prepare.ensures.fails in
    let after = appended g.Word.Natural.number g.Backend.Holds g.Backend.WriteWords owed c.args.bulk.now c.prepare.new.self c.write_words.new.bulk in
    mapped _ _ _ _ c.write_words.result
    (λ done i. after (Ok done) ready (omega (arith, len)) i)
    (λ refused i. after (Err refused.1) ready (omega (arith, len)) i)
    c.write_words.ensures.written

pub returns-clause-refused : goal.returns-clause-refused
returns-clause-refused g c =
    let owed = fixed_digits (2 ^ g.Word.Natural.BITS) c.args.count (g.State.Natural.number c.args.head) in
    let len = fixed-length (2 ^ g.Word.Natural.BITS) c.args.count (g.State.Natural.number c.args.head) in
    let ready = prepared g.Word.Natural.number g.Backend.Holds g.Backend.WriteWords owed c.args.count _ _ (sym len) c.prepare.ensures.words c.in-Ok.ensures.room c.in-Ok.ensures.made c.prepare.ensures.fails in
    refused _ _ _ c.write_words.result (λ r i. inr (stopped g.Word.Natural.number g.Backend.Holds g.Backend.WriteWords owed _ _ _ r.1 ready i)) c.write_words.ensures.written
