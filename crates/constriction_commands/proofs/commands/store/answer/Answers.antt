use Rattle.std.proofs.Common.{ℕ, List, ◌++◌, ap, ◌∙◌}
use Rattle.constriction_store.specs.Chunks.{lists_of}
use Rattle.constriction_commands.specs.Lines.{line_of}
use Rattle.constriction_commands.specs.commands.Store.{StoreFails, lines_at}
use Rattle.constriction_commands.proofs.Chunks.{no_chunks, not_stored, not_looked_up}
use Rattle.constriction_commands.proofs.Faults.{passed_on}
use Rattle.constriction_commands.proofs.commands.store.answer.Goals as goal

pub push_chunks-requires : goal.push_chunks-requires
push_chunks-requires c = (lists_of c.in_ok-table.chunks.items, rw c.as_slice.ensures.value at c.in_ok-store.ensures.held)

pub returns-clause-ok : goal.returns-clause-ok
returns-clause-ok c =
    let chunks = lists_of c.in_ok-table.chunks.items in
    let places = c.in_ok-table.places.items in
    let shown = rw c.as_slice-2.ensures.value at (c.in_ok-push_chunks.ensures.ok chunks (rw c.as_slice.ensures.value at c.in_ok-store.ensures.held)) in
    record {
      table = _;
      places = places;
      chunks = chunks;
      words = c.in_ok-store.store.words;
      given = c.in_ok-table.ensures.ok;
      stored = rw c.as_slice.ensures.value at c.in_ok-store.ensures.words;
      there = shown.0;
      printed = shown.1 ∙ ap (λ (ls : List ℕ). ls ++ lines_at chunks places) (c.in_ok-lines.ensures ∙ ap line_of c.words.ensures);
    }

pub returns-in_err-table-clause-err : goal.returns-in_err-table-clause-err
returns-in_err-table-clause-err c =
    passed_on _ c.in_err-table.field-0.0 (StoreFails c.args.text.now) c.from_residual.ensures.1
    (no_chunks c.args.text.now c.in_err-table.field-0.0 c.in_err-table.ensures.err)

pub returns-in_err-store-clause-err : goal.returns-in_err-store-clause-err
returns-in_err-store-clause-err c =
    let chunks = lists_of c.in_ok-table.chunks.items in
    passed_on _ c.in_err-store.field-0.0 (StoreFails c.args.text.now) c.from_residual-in_err-store.ensures.1
    (not_stored c.args.text.now _ c.in_ok-table.places.items chunks c.in_err-store.field-0.0 c.in_ok-table.ensures.ok (rw c.as_slice.ensures.value at c.in_err-store.ensures.err))

pub returns-in_err-push_chunks-clause-err : goal.returns-in_err-push_chunks-clause-err
returns-in_err-push_chunks-clause-err c =
    let chunks = lists_of c.in_ok-table.chunks.items in
    let held = rw c.as_slice.ensures.value at c.in_ok-store.ensures.held in
    passed_on _ c.in_err-push_chunks.field-0.0 (StoreFails c.args.text.now) c.from_residual-in_err-push_chunks.ensures.1
    (not_looked_up c.args.text.now _ c.in_ok-table.places.items chunks c.in_ok-store.store.words c.in_err-push_chunks.field-0.0 c.in_ok-table.ensures.ok
    (rw c.as_slice.ensures.value at c.in_ok-store.ensures.words) (rw (c.as_slice-2.ensures.value, held.count) at c.in_err-push_chunks.ensures.err))
