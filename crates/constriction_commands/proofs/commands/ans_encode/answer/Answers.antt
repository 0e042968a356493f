use Rattle.std.proofs.Common.{◌^◌, ◌%◌, map, sym, ◌∙◌}
use Rattle.constriction_commands.specs.Coding.{EncodeFails}
use Rattle.constriction_commands.proofs.Faults.{passed_on, no_symbols, symbols_refused}
use Rattle.constriction_commands.proofs.Answered.{ans_encoded}
use Rattle.constriction_base.proofs.Turns.{map-reverse}
use Rattle.constriction_commands.proofs.commands.ans_encode.answer.Goals as goal

pub returns-clause-ok : goal.returns-clause-ok
returns-clause-ok c =
    let encoded = c.in_ok-words.ensures.ok in
    ans_encoded (map (λ word. word % 2 ^ 32) c.in_ok-words.words.items) encoded.0 c.in_ok-table.ensures.ok
    (rw c.as_slice.ensures.value at encoded.1)
    (sym (map-reverse (λ word. word % 2 ^ 32) c.in_ok-words.words.items) ∙ encoded.2)
    (rw c.as_slice-2.ensures.value at c.in_ok-line_of_words.ensures)

pub returns-in_err-table-clause-err : goal.returns-in_err-table-clause-err
returns-in_err-table-clause-err c =
    passed_on _ c.in_err-table.field-0.0 (EncodeFails c.args.text.now) c.from_residual.ensures.1
    (no_symbols c.args.text.now c.in_err-table.field-0.0 c.in_err-table.ensures.err)

pub returns-in_err-words-clause-err : goal.returns-in_err-words-clause-err
returns-in_err-words-clause-err c =
    passed_on _ c.in_err-words.field-0.0 (EncodeFails c.args.text.now) c.from_residual-in_err-words.ensures.1
    (symbols_refused c.args.text.now _ _ c.in_err-words.field-0.0 c.in_ok-table.ensures.ok (rw c.as_slice.ensures.value at c.in_err-words.ensures.err))
