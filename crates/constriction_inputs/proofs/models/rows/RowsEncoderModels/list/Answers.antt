use Rattle.std.proofs.Common.{◌∙◌, arith, map, refl, sym}
use Rattle.std.proofs.lemmas.List.{length-map}
use Rattle.constriction_inputs.proofs.Listing.{rows_listed, tables_counted}
use Rattle.constriction_inputs.proofs.RowTables.{each_total}
use Rattle.constriction_inputs.proofs.models.rows.RowsEncoderModels.list.Goals as goal

pub invariant_of-result : goal.invariant_of-result
invariant_of-result g c =
    let self = c.args.self.now in
    let fit = c.requires.fit.2 in
    let long = c.requires.fit.1 in
    record {
      positive = c.requires.precision.0;
      fits = c.requires.precision.1;
      counted = sym (length-map self.weights.now g.P.Natural.number) ∙ rw long at fit.0;
      totals = λ k within. each_total g.row.PRECISION self.width (map g.P.Natural.number self.weights.now) c.args.count (rw long at fit.2) k within;
      selected = λ within. absurd (omega (arith, within));
    }

pub returns-clause-count : goal.returns-clause-count
returns-clause-count g c = tables_counted c.args.self.now.width c.args.count (map g.P.Natural.number c.args.self.now.weights.now)

pub returns-clause-items : goal.returns-clause-items
returns-clause-items g c =
    λ others many. rows_listed g.row.PRECISION c.args.self.now.width _ (map g.P.Natural.number c.args.self.now.weights.now) others _ many refl
