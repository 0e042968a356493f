use Rattle.std.proofs.Common.{◌≡◌, map, vec_len, vec_capacity}
use Rattle.std.specs.List.{range_with_len}
use Rattle.constriction_base.specs.Tables.{table_of}
use Rattle.constriction_inputs.specs.Mixtures.{row_at_index}
use Rattle.constriction_inputs.specs.WeightsModels.{of_either}
use Rattle.constriction_inputs.proofs.models.indexed.models_by.Given as goal

abbrev pub invariant-loop-index : goal.invariant-loop-index
invariant-loop-index g l = record {
  tables : map (λ m. of_either (λ guided. table_of (map g.P.Natural.number guided.row.weights.now)) (λ row. table_of (map g.P.Natural.number row.weights.now)) m.model) l.models.items
      ≡ map (λ index. table_of (row_at_index l.width index (map g.P.Natural.number l.weights))) (range_with_len 0 l.index);
  counted : vec_len l.models ≡ l.index;
  capacity : vec_capacity l.models ≡ l.tables;
}
