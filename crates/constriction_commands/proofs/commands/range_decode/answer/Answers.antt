use Rattle.constriction_commands.specs.commands.RangeDecode.{RangeDecodeFails}
use Rattle.constriction_commands.proofs.Faults.{passed_on, no_words_to_read, reading_refused}
use Rattle.constriction_commands.proofs.Answered.{range_decoded}
use Rattle.constriction_commands.proofs.commands.range_decode.answer.Goals as goal

pub returns-clause-ok : goal.returns-clause-ok
returns-clause-ok c =
    let read = c.in_ok-symbols.ensures.ok in
    range_decoded c.in_ok-symbols.symbols.items read.0 c.in_ok-table.ensures.ok
    (rw c.as_slice.ensures.value at read.1)
    c.in_ok-symbols.ensures.counted
    (rw c.as_slice-2.ensures.value at c.in_ok-line_of_numbers.ensures)

pub returns-in_err-table-clause-err : goal.returns-in_err-table-clause-err
returns-in_err-table-clause-err c =
    passed_on _ c.in_err-table.field-0.0 (RangeDecodeFails c.args.text.now) c.from_residual.ensures.1
    (no_words_to_read c.args.text.now c.in_err-table.field-0.0 c.in_err-table.ensures.err)

pub returns-in_err-symbols-clause-err : goal.returns-in_err-symbols-clause-err
returns-in_err-symbols-clause-err c =
    passed_on _ c.in_err-symbols.field-0.0 (RangeDecodeFails c.args.text.now) c.from_residual-in_err-symbols.ensures.1
    (reading_refused c.args.text.now _ _ _ c.in_err-symbols.field-0.0 c.in_ok-table.ensures.ok (rw c.as_slice.ensures.value at c.in_err-symbols.ensures.err))
