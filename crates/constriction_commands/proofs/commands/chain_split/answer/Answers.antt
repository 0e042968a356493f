use Rattle.std.proofs.Common.{ℕ, ◌%◌, ◌^◌, map, reverse, sym, ◌∙◌, ap}
use Rattle.constriction_commands.specs.commands.ChainSplit.{ChainSplitFails}
use Rattle.constriction_commands.proofs.Faults.{passed_on}
use Rattle.constriction_commands.proofs.Chain.{own_chain, none_split, no_coder, not_split, split}
use Rattle.constriction_base.proofs.Turns.{map-reverse}
use Rattle.constriction_commands.proofs.commands.chain_split.answer.Goals as goal

pub returns-clause-ok : goal.returns-clause-ok
returns-clause-ok c =
    let number : ℕ → ℕ = λ word. word % 2 ^ 32 in
    let prefix = c.in_ok-prefix.prefix.items in
    let suffix = c.in_ok-prefix.suffix.items in
    let parts = c.in_ok-prefix.ensures.ok in
    split c.decode.new.coder.state c.in_ok-symbols.symbols.items (map number prefix) (map number suffix)
    c.in_ok-table.ensures.ok (own_chain c.in_ok-table.ensures.ok c.in_ok-coder.ensures.ok) c.in_ok-symbols.ensures.ok c.in_ok-symbols.ensures.counted
    (sym (map-reverse number prefix) ∙ ap (λ v. map number (reverse v.items)) parts.0 ∙ sym c.in_ok-prefix.ensures.coder.compressed_are)
    (sym (map-reverse number suffix) ∙ parts.1)
    (rw (c.as_slice.ensures.value, c.as_slice-2.ensures.value, c.as_slice-3.ensures.value) at c.in_ok-lines.ensures)

pub returns-in_err-table-clause-err : goal.returns-in_err-table-clause-err
returns-in_err-table-clause-err c =
    passed_on _ c.in_err-table.field-0.0 (ChainSplitFails c.args.text.now) c.from_residual.ensures.1
    (none_split c.args.text.now c.in_err-table.field-0.0 c.in_err-table.ensures.err)

pub returns-in_err-coder-clause-err : goal.returns-in_err-coder-clause-err
returns-in_err-coder-clause-err c =
    passed_on _ c.in_err-coder.field-0.0 (ChainSplitFails c.args.text.now) c.from_residual-in_err-coder.ensures.1
    (no_coder c.args.text.now _ _ _ c.in_err-coder.field-0.0 c.in_ok-table.ensures.ok c.in_err-coder.ensures.err)

pub returns-in_err-symbols-clause-err : goal.returns-in_err-symbols-clause-err
returns-in_err-symbols-clause-err c =
    passed_on _ c.in_err-symbols.field-0.0 (ChainSplitFails c.args.text.now) c.from_residual-in_err-symbols.ensures.1
    (not_split c.args.text.now _ _ _ _ c.in_err-symbols.field-0.0 c.in_ok-table.ensures.ok (own_chain c.in_ok-table.ensures.ok c.in_ok-coder.ensures.ok) c.in_err-symbols.ensures.err)
