use Rattle.std.proofs.Common.{◌<◌, [], Some, length, arith, rules}
use Rattle.constriction_models.specs.Quantizers.{symbol_count, first_symbol}
use Rattle.constriction_inputs.proofs.FamilyTables.{table_at, tables_counted}
use Rattle.constriction_inputs.proofs.models.families.FamilyIntervalsModelList.interval.Goals as goal

pub model_at-model-requires : goal.model_at-model-requires
model_at-model-requires g c =
    let list = c.args.self.now in
    let within : c.args.place < length list.locations.now =
    omega (arith, c.requires, tables_counted g.row.PRECISION (Some list.family) (first_symbol list.quantizer) (symbol_count list.quantizer) list.locations.now list.scales.now list.counted) in
    (search rules, (search rules, (within, (list.counted, list.scaled c.args.place (omega (arith, within, list.counted))))))

pub returns-in-Some-clause-found : goal.returns-in-Some-clause-found
returns-in-Some-clause-found g c =
    let list = c.args.self.now in
    let within : c.args.place < length list.locations.now =
    omega (arith, c.requires, tables_counted g.row.PRECISION (Some list.family) (first_symbol list.quantizer) (symbol_count list.quantizer) list.locations.now list.scales.now list.counted) in
    rw (table_at g.row.PRECISION (Some list.family) (first_symbol list.quantizer) (symbol_count list.quantizer) list.locations.now list.scales.now c.args.place [] within list.counted)
    (rw c.model_at-model.ensures at c.in-Some.ensures.found)

pub returns-in-None-clause-impossible : goal.returns-in-None-clause-impossible
returns-in-None-clause-impossible g c =
    let list = c.args.self.now in
    let within : c.args.place < length list.locations.now =
    omega (arith, c.requires, tables_counted g.row.PRECISION (Some list.family) (first_symbol list.quantizer) (symbol_count list.quantizer) list.locations.now list.scales.now list.counted) in
    rw (table_at g.row.PRECISION (Some list.family) (first_symbol list.quantizer) (symbol_count list.quantizer) list.locations.now list.scales.now c.args.place [] within list.counted)
    (rw c.model_at-model.ensures at c.in-None.ensures.impossible)
