use Rattle.std.proofs.Common.{ℕ, length, sym}
use Rattle.std.specs.List.{range_with_len}
use Rattle.std.proofs.lemmas.List.FromFn.{length-range_with_len}
use Rattle.constriction_models.specs.Mixtures.{mixed}
use Rattle.constriction_inputs.specs.Mixtures.{ByMixture, components_at}
use Rattle.constriction_inputs.specs.Quantized.{symbols_in}
use Rattle.constriction_inputs.proofs.FamilyTables.{known_places, places_known}
use Rattle.constriction_inputs.proofs.models.mixtures.MixturesEncoderModels.know.Goals as goal

pub returns : goal.returns
returns g c =
    let parts = c.args.self.now.components in
    let by : ByMixture = record {
      components = record { family = parts.family; min = parts.min; max = parts.max; locations = parts.locations.now; scales = parts.scales.now };
      weights = c.args.self.now.weights.now;
      width = c.args.self.now.width;
    } in
    let below = λ (place : ℕ). mixed (components_at by place) in
    let symbols = g.S.Symbol.numbers c.args.symbols.now in
    let places = range_with_len 0 (length symbols) in (
      λ yes. places_known g.row.PRECISION below parts.min (symbols_in parts.min parts.max) places symbols (c.are_places.ensures.0 yes),
      λ known. c.are_places.ensures.1 (known_places g.row.PRECISION below parts.min (symbols_in parts.min parts.max) places symbols (sym (length-range_with_len 0 (length symbols))) known),
    )
