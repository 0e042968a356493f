use Rattle.std.proofs.Common.{◌<◌, arith}
use Rattle.constriction_inputs.specs.Mixtures.{ByMixture}
use Rattle.constriction_inputs.proofs.MixtureTables.{mixtures_counted, row_ends}
use Rattle.constriction_inputs.proofs.models.mixtures.MixtureListDecoderModelList.select.Goals as goal

pub fill_from_row-requires-clause-within : goal.fill_from_row-requires-clause-within
fill_from_row-requires-clause-within g c =
    let list = c.args.self.now in
    let parts = list.mixtures.components in
    let by : ByMixture = record {
      components = record { family = parts.family; min = parts.min; max = parts.max; locations = parts.locations.now; scales = parts.scales.now };
      weights = list.mixtures.weights.now;
      width = list.mixtures.width;
    } in
    let within : c.args.place < list.count = omega (arith, c.requires, mixtures_counted g.row.PRECISION by list.count) in
    omega (arith, list.weighed, row_ends list.mixtures.width c.args.place list.count within)

pub fill_from_row-requires-clause-mixable : goal.fill_from_row-requires-clause-mixable
fill_from_row-requires-clause-mixable g c =
    let list = c.args.self.now in
    let parts = list.mixtures.components in
    let by : ByMixture = record {
      components = record { family = parts.family; min = parts.min; max = parts.max; locations = parts.locations.now; scales = parts.scales.now };
      weights = list.mixtures.weights.now;
      width = list.mixtures.width;
    } in
    let within : c.args.place < list.count = omega (arith, c.requires, mixtures_counted g.row.PRECISION by list.count) in
    list.mixable c.args.place within
