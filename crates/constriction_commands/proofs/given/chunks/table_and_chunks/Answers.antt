use Rattle.std.proofs.Common.{◌-◌, ◌^◌, Err, Some, sym, ◌∙◌, ap}
use Rattle.std.proofs.lemmas.List.{map-id}
use Rattle.constriction_store.specs.Chunks.{lists_of}
use Rattle.constriction_commands.specs.Inputs.{NoChunks}
use Rattle.constriction_commands.specs.Lines.{first_line, after_line, numbers_of, number_lists_of}
use Rattle.constriction_commands.proofs.Chunks.{own_lists, no_table}
use Rattle.constriction_commands.proofs.Faults.{passed_on}
use Rattle.constriction_commands.proofs.given.chunks.table_and_chunks.Goals as goal

pub returns-clause-ok : goal.returns-clause-ok
returns-clause-ok c = record {
  first_two = record {
    weights = c.in_ok-weights.weights.items;
    weights_line = ap (numbers_of (2 ^ 32 - 1)) (sym c.split_line.ensures.first) ∙ c.in_ok-weights.ensures.ok ∙ ap Some (map-id c.in_ok-weights.weights.items);
    symbols_line = ap (numbers_of (2 ^ 64 - 1)) (sym (c.split_line-2.ensures.first ∙ ap first_line c.split_line.ensures.rest)) ∙ c.in_ok-places.ensures.ok ∙ ap Some (map-id c.in_ok-places.places.items);
    total = rw c.as_slice.ensures.value at c.in_ok-table.ensures.total;
    table_is = rw c.as_slice.ensures.value at c.in_ok-table.ensures.ok;
  };
  chunk_lines = ap (number_lists_of (2 ^ 64 - 1)) (sym (c.split_line-2.ensures.rest ∙ ap after_line c.split_line.ensures.rest)) ∙ c.in_ok-chunks.ensures.ok ∙ ap Some (own_lists c.in_ok-chunks.chunks.items);
}

pub returns-in_err-table-clause-err : goal.returns-in_err-table-clause-err
returns-in_err-table-clause-err c =
    let first = ap (numbers_of (2 ^ 32 - 1)) (sym c.split_line.ensures.first) ∙ c.in_ok-weights.ensures.ok ∙ ap Some (map-id c.in_ok-weights.weights.items) in
    let second = ap (numbers_of (2 ^ 64 - 1)) (sym (c.split_line-2.ensures.first ∙ ap first_line c.split_line.ensures.rest)) ∙ c.in_ok-places.ensures.ok ∙ ap Some (map-id c.in_ok-places.places.items) in
    let others = ap (number_lists_of (2 ^ 64 - 1)) (sym (c.split_line-2.ensures.rest ∙ ap after_line c.split_line.ensures.rest)) ∙ c.in_ok-chunks.ensures.ok ∙ ap Some (own_lists c.in_ok-chunks.chunks.items) in
    passed_on _ c.in_err-table.field-0.0 (NoChunks c.args.text.now) c.from_residual-in_err-table.ensures.1
    (no_table c.args.text.now c.in_ok-weights.weights.items c.in_ok-places.places.items (lists_of c.in_ok-chunks.chunks.items) c.in_err-table.field-0.0 first second others c.in_err-table.ensures.err
    (λ e. rw c.as_slice.ensures.value at (c.in_err-table.ensures.empty (ap Err e)))
    (λ e. rw c.as_slice.ensures.value at (c.in_err-table.ensures.wrong_total (ap Err e))))
