use Rattle.constriction_commands.specs.Coding.{EncodeFails}
use Rattle.constriction_commands.proofs.Faults.{passed_on, no_symbols, symbols_refused}
use Rattle.constriction_commands.proofs.Answered.{range_encoded}
use Rattle.constriction_commands.proofs.commands.range_encode.answer.Goals as goal

pub returns-clause-ok : goal.returns-clause-ok
returns-clause-ok c =
    let encoded = c.in_ok-words.ensures.ok in
    range_encoded encoded.0 c.in_ok-table.ensures.ok
    (rw c.as_slice.ensures.value at encoded.1)
    (rw (c.as_slice-2.ensures.value, encoded.2) at c.in_ok-line_of_words.ensures)

pub returns-in_err-table-clause-err : goal.returns-in_err-table-clause-err
returns-in_err-table-clause-err c =
    passed_on _ c.in_err-table.field-0.0 (EncodeFails c.args.text.now) c.from_residual.ensures.1
    (no_symbols c.args.text.now c.in_err-table.field-0.0 c.in_err-table.ensures.err)

pub returns-in_err-words-clause-err : goal.returns-in_err-words-clause-err
returns-in_err-words-clause-err c =
    passed_on _ c.in_err-words.field-0.0 (EncodeFails c.args.text.now) c.from_residual-in_err-words.ensures.1
    (symbols_refused c.args.text.now _ _ c.in_err-words.field-0.0 c.in_ok-table.ensures.ok (rw c.as_slice.ensures.value at c.in_err-words.ensures.err))
