use Rattle.std.proofs.Common.{◌∙◌, Some, sym}
use Rattle.constriction_models.specs.Quantizers.{symbol_count, first_symbol}
use Rattle.constriction_inputs.proofs.FamilyTables.{tables_counted}
use Rattle.constriction_inputs.proofs.models.families.FamiliesEncoderModels.list.Goals as goal

pub returns-clause-count : goal.returns-clause-count
returns-clause-count g c =
    let same = c.requires.fit.2.0 in
    tables_counted g.row.PRECISION (Some c.in-Ok.family) (first_symbol c.in-Ok.quantizer) (symbol_count c.in-Ok.quantizer) c.args.self.now.locations.now c.args.self.now.scales.now (same.0 ∙ sym same.1) ∙ (same.0 ∙ c.requires.fit.1)
