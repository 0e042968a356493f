use Rattle.std.proofs.Common.{inl, inr}
use Rattle.constriction_commands.specs.commands.AnsDecode.{AnsDecodeFails}
use Rattle.constriction_commands.proofs.OwnNumbers.{own_reverse, ends_with_zero}
use Rattle.constriction_commands.proofs.Faults.{passed_on, no_words}
use Rattle.constriction_commands.proofs.Answered.{ans_decoded, words_fit}
use Rattle.constriction_commands.proofs.commands.ans_decode.answer.Goals as goal

pub returns-clause-ok : goal.returns-clause-ok
returns-clause-ok c =
    let given = c.in_ok-table.ensures.ok in
    let imported = c.in-Ok.ensures.ok tt in
    let own = own_reverse c.in_ok-table.words.items (words_fit given) in
    ans_decoded c.in_ok-symbols.symbols.items c.decode.new.coder.state given
    (rw own at (c.in-Ok.ensures.some tt))
    (rw (imported, own) at c.in_ok-symbols.ensures.ok)
    c.in_ok-symbols.ensures.counted
    (rw c.as_slice.ensures.value at c.in_ok-line_of_numbers.ensures)

pub returns-in_err-table-clause-err : goal.returns-in_err-table-clause-err
returns-in_err-table-clause-err c =
    passed_on _ c.in_err-table.field-0.0 (AnsDecodeFails c.args.text.now) c.from_residual.ensures.1
    (no_words c.args.text.now c.in_err-table.field-0.0 c.in_err-table.ensures.err)

pub returns-in_default-clause-err : goal.returns-in_default-clause-err
returns-in_default-clause-err c =
    let given = c.in_ok-table.ensures.ok in
    let words = c.in_ok-table.words.items in
    let own = own_reverse words (words_fit given) in (
      _,
      c.in_ok-table.count,
      words,
      given,
      elim (c.in_default.ensures.taken tt) [
        | inl zero ↦ ends_with_zero words _ zero.0 own zero.1 zero.2
        | inr failed ↦ elim failed.1 [ ]
      ],
    )
