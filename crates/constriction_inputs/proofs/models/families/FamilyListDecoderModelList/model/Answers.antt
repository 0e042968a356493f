use Rattle.std.proofs.Common.{◌<◌, ◌≡◌, ◌∙◌, Some, get_or, length, pos, arith, refl, sym}
use Rattle.constriction_models.specs.Families.{family_below}
use Rattle.constriction_models.specs.Quantized.{indexed}
use Rattle.constriction_models.specs.Quantizers.{symbol_count, first_symbol}
use Rattle.constriction_inputs.specs.Quantized.{below_by}
use Rattle.constriction_inputs.proofs.FamilyTables.{table_at, tables_counted}
use Rattle.constriction_inputs.proofs.models.families.FamilyListDecoderModelList.model.Goals as goal

pub returns : goal.returns
returns g c =
    let list = c.args.self.now in
    let family = list.model.family in
    let low = first_symbol list.model.quantizer in
    let count = symbol_count list.model.quantizer in
    let within : list.place < length list.locations.now = omega (arith, c.requires, tables_counted g.row.PRECISION (Some family) low count list.locations.now list.scales.now list.counted) in
    let kept = list.selected within in
    let same : indexed g.row.PRECISION (family_below family list.model.location list.model.scale) low count
    ≡ indexed g.row.PRECISION (below_by (Some family) (get_or list.locations.now list.place (pos 0)) (get_or list.scales.now list.place 0)) low count = rw (kept.0, kept.1) refl in
    same ∙ sym (table_at g.row.PRECISION (Some family) low count list.locations.now list.scales.now list.place _ within list.counted)
