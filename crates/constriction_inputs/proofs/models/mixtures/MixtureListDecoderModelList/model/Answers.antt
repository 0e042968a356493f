use Rattle.std.proofs.Common.{◌≡◌, ◌∙◌, ◌<◌, Some, List, arith, ap, refl, sym}
use Rattle.constriction_models.specs.Mixtures.{Weighted, mixed}
use Rattle.constriction_models.specs.Quantized.{indexed}
use Rattle.constriction_inputs.specs.Mixtures.{ByMixture, components_at, components_of, row_at_index}
use Rattle.constriction_inputs.specs.Quantized.{symbols_in}
use Rattle.constriction_inputs.proofs.MixtureTables.{mixture_at, mixtures_counted}
use Rattle.constriction_inputs.proofs.models.mixtures.MixtureListDecoderModelList.model.Goals as goal

pub returns : goal.returns
returns g c =
    let list = c.args.self.now in
    let given = list.mixtures in
    let parts = given.components in
    let by : ByMixture = record {
      components = record { family = parts.family; min = parts.min; max = parts.max; locations = parts.locations.now; scales = parts.scales.now };
      weights = given.weights.now;
      width = given.width;
    } in
    let q = list.mixed.quantizer in
    let rows = components_of (Some list.family) (row_at_index given.width list.place given.weights.now) (row_at_index given.width list.place parts.locations.now) (row_at_index given.width list.place parts.scales.now) in
    let within : list.place < list.count = omega (arith, c.requires, mixtures_counted g.row.PRECISION by list.count) in
    let is : indexed g.row.PRECISION (mixed rows) q.min q.count ≡ indexed g.row.PRECISION (mixed (components_at by list.place)) parts.min (symbols_in parts.min parts.max) = rw (list.first, list.symbols, list.named) refl in
    ap (λ (them : List Weighted). indexed g.row.PRECISION (mixed them) q.min q.count) (list.filled within) ∙ (is ∙ sym (mixture_at g.row.PRECISION by list.count list.place _ within))
