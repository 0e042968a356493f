use Rattle.std.proofs.Common.{◌<◌, ℕ, map, arith}
use Rattle.constriction_inputs.proofs.IndexedTables.{all_at, items_listed, models_counted}
use Rattle.constriction_inputs.proofs.models.indexed.IndexedDecoderModels.decoder_list.Goals as goal

pub invariant_of-result : goal.invariant_of-result
invariant_of-result g c =
    let self = c.args.self.now in
    let ws = map g.P.Natural.number self.weights.now in
    let lengths = c.requires.fit.2.0 in
    let tables = c.rows_of-tables.result in
    let counted = models_counted self.width ws _ c.in-Some.models.items tables c.in-Some.ensures in
    record {
      within = λ k inside. let at = all_at (λ (n : ℕ). n < tables) self.indexes.now k 0 (rw c.rows_of-tables.ensures lengths.within) inside in omega (arith, at, counted);
    }

pub returns-in-Some-clause-items : goal.returns-in-Some-clause-items
returns-in-Some-clause-items g c =
    let self = c.args.self.now in
    λ others many. items_listed self.width (map g.P.Natural.number self.weights.now) g.row.PRECISION self.indexes.now _ c.in-Some.models.items c.rows_of-tables.result others c.in-Some.ensures (rw c.rows_of-tables.ensures c.requires.fit.2.0.within)
