use Rattle.std.proofs.Common.{◌-◌, ◌^◌, Some, sym, ◌∙◌, ap}
use Rattle.std.proofs.lemmas.List.{map-id}
use Rattle.constriction_commands.specs.Lines.{numbers_of}
use Rattle.constriction_commands.proofs.given.symbols.table_and_symbols.Goals as goal

pub returns-clause-ok : goal.returns-clause-ok
returns-clause-ok c = record {
  weights = c.in_ok-weights.weights.items;
  weights_line = ap (numbers_of (2 ^ 32 - 1)) (sym c.two_lines.ensures.first) ∙ c.in_ok-weights.ensures.ok ∙ ap Some (map-id c.in_ok-weights.weights.items);
  symbols_line = ap (numbers_of (2 ^ 64 - 1)) (sym c.two_lines.ensures.second) ∙ c.in_ok-symbols.ensures.ok ∙ ap Some (map-id c.in_ok-symbols.symbols.items);
  total = rw c.as_slice.ensures.value at c.in_ok-table.ensures.total;
  table_is = rw c.as_slice.ensures.value at c.in_ok-table.ensures.ok;
}
