use Rattle.std.proofs.Common.{◌∙◌, ◌<◌, arith, map, refl, rules, sym}
use Rattle.std.proofs.lemmas.List.{map_push}
use Rattle.std.proofs.lemmas.List.FromFn.{map-range_with_len_more}
use Rattle.constriction_base.specs.Tables.{table_of}
use Rattle.constriction_inputs.specs.Mixtures.{row_at_index}
use Rattle.constriction_inputs.specs.Weights.{IsTotal}
use Rattle.constriction_inputs.specs.WeightsModels.{of_either}
use Rattle.constriction_inputs.proofs.MixtureTables.{row_ends}
use Rattle.constriction_inputs.proofs.RowTables.{each_total}
use Rattle.constriction_inputs.proofs.models.indexed.models_by.Goals as goal

pub weights_at-row-requires : goal.weights_at-row-requires
weights_at-row-requires g c =
    let at : c.loop-index.index < c.args.tables = c.loop-index-test.true in
    omega (arith, c.requires.counted, row_ends c.args.width c.loop-index.index c.args.tables at)

pub model_by-requires : goal.model_by-requires
model_by-requires g c =
    let given = c.args in
    let number = g.P.Natural.number in
    let total : IsTotal g.row.PRECISION (map number c.weights_at-row.result.now) =
    rw c.weights_at-row.ensures (each_total g.row.PRECISION given.width (map number given.weights.now) given.tables c.requires.totals c.loop-index.index c.loop-index-test.true) in
    search rules

pub loop-index-preserved : goal.loop-index-preserved
loop-index-preserved g c =
    let given = c.args in
    let l = c.loop-index in
    let number = g.P.Natural.number in
    let more = map-range_with_len_more (λ index. table_of (row_at_index given.width index (map number given.weights.now))) 0 l.index l.index (omega arith) in
    record {
      tables = rw c.push_reserved.ensures.items
          (map_push (λ m. of_either (λ guided. table_of (map number guided.row.weights.now)) (λ row. table_of (map number row.weights.now)) m.model) l.models.items c.in-Some.model
          ∙ (rw (l.invariant.tables, c.in-Some.ensures, c.weights_at-row.ensures) refl ∙ sym more));
      counted = omega (arith, c.push_reserved.ensures.len, l.invariant.counted);
      capacity = omega (arith, c.push_reserved.ensures.capacity, l.invariant.capacity);
    }
