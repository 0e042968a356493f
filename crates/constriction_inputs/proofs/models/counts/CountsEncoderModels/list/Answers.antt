use Rattle.std.proofs.Common.{arith, refl}
use Rattle.constriction_inputs.proofs.CountTables.{items_listed, tables_counted}
use Rattle.constriction_inputs.proofs.models.counts.CountsEncoderModels.list.Goals as goal

pub invariant_of-result : goal.invariant_of-result
invariant_of-result g c =
    let fit = c.requires.fit.2 in
    let long = c.requires.fit.1 in
    record {
      positive = c.requires.precision.0;
      fits = fit.2.0;
      counted = rw long at fit.0;
      rows = rw long at fit.2.1;
      selected = λ within. absurd (omega (arith, within));
    }

pub returns-clause-count : goal.returns-clause-count
returns-clause-count g c = tables_counted g.row.PRECISION c.args.self.now.width c.args.self.now.counts.now c.args.count

pub returns-clause-items : goal.returns-clause-items
returns-clause-items g c = λ others many. items_listed g.row.PRECISION c.args.self.now.width c.args.self.now.counts.now _ others _ many refl
