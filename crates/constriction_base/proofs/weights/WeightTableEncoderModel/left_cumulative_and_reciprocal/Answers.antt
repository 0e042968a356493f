use Rattle.std.proofs.Common.{◌≡◌, ◌<◌, ◌-◌, ◌^◌, ◌∙◌, map, length, sym, arith}
use Rattle.std.proofs.lemmas.List.{length-map}
use Rattle.constriction_base.specs.Tables.{weights_between}
use Rattle.constriction_base.specs.laws.Weights.{has_only, length-weights_between}
use Rattle.constriction_base.proofs.Entries.{found, impossible}
use Rattle.constriction_base.proofs.Made.{weight_known}
use Rattle.constriction_base.proofs.weights.WeightTableEncoderModel.left_cumulative_and_reciprocal.Goals as goal

pub returns-in-Some-left_cumulative_and_probability-clause-kept : goal.returns-in-Some-left_cumulative_and_probability-clause-kept
returns-in-Some-left_cumulative_and_probability-clause-kept g c =
    let items = c.args.self.now.starts.items in
    let starts = map g.Probability.Natural.number items in
    let ws = weights_between starts (2 ^ g.row.PRECISION) in
    let only = has_only 0 0 ws c.args.symbol.now _ _ c.in-Some-left_cumulative_and_probability.ensures.found in
    let same : c.args.symbol.now - 0 ≡ c.args.symbol.now = omega arith in
    let within : c.args.symbol.now < length items = omega (arith, rw same at only.1, length-weights_between starts (2 ^ g.row.PRECISION), length-map items g.Probability.Natural.number) in
    λ all. absurd (omega (arith, all, within, c.in_default.ensures.none))

pub returns-in-None-to_nonzero-clause-impossible : goal.returns-in-None-to_nonzero-clause-impossible
returns-in-None-to_nonzero-clause-impossible g c =
    impossible (map g.Probability.Natural.number c.args.self.now.starts.items) (2 ^ g.row.PRECISION) c.args.symbol.now
    (λ h. sym c.in-Some.ensures.ok.weight ∙ c.in-None-to_nonzero.ensures)

pub returns-in-Some-to_nonzero-clause-found : goal.returns-in-Some-to_nonzero-clause-found
returns-in-Some-to_nonzero-clause-found g c =
    let starts = map g.Probability.Natural.number c.args.self.now.starts.items in
    let row = c.in-Some.ensures.ok in
    let weight = c.in-Some-to_nonzero.ensures ∙ row.weight in
    let some = g.met.Probability.BitArray.nonzero_law _ in
    found starts (2 ^ g.row.PRECISION) c.args.symbol.now _ _ c.args.self.now.rising (weight_known starts (2 ^ g.row.PRECISION) c.args.symbol.now _ weight some) row.left weight some
