use Rattle.std.proofs.Common.{Some, sym}
use Rattle.constriction_models.specs.Quantizers.{symbol_count, first_symbol}
use Rattle.constriction_inputs.proofs.FamilyTables.{tables_counted}
use Rattle.constriction_inputs.proofs.models.families.FamilyIntervalsModelList.count.Goals as goal

pub returns : goal.returns
returns g c =
    let list = c.args.self.now in
    sym (tables_counted g.row.PRECISION (Some list.family) (first_symbol list.quantizer) (symbol_count list.quantizer) list.locations.now list.scales.now list.counted)
