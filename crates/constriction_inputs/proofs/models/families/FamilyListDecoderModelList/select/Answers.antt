use Rattle.std.proofs.Common.{◌<◌, Some, length, arith, rules}
use Rattle.constriction_models.specs.Quantizers.{symbol_count, first_symbol}
use Rattle.constriction_inputs.proofs.FamilyTables.{tables_counted}
use Rattle.constriction_inputs.proofs.models.families.FamilyListDecoderModelList.select.Goals as goal

pub move_to-requires : goal.move_to-requires
move_to-requires g c =
    let list = c.args.self.now in
    let within : c.args.place < length list.locations.now =
    omega (arith, c.requires, tables_counted g.row.PRECISION (Some list.model.family) (first_symbol list.model.quantizer) (symbol_count list.model.quantizer) list.locations.now list.scales.now list.counted) in
    (search rules, (within, (list.counted, list.scaled c.args.place (omega (arith, within, list.counted)))))
