use Rattle.std.proofs.Common.{◌∙◌, ◌*◌, arith, ap, refl, sym}
use Rattle.constriction_models.specs.Mixtures.{total_weight}
use Rattle.constriction_inputs.specs.Mixtures.{row_at_index}
use Rattle.constriction_inputs.proofs.MixtureTables.{row_between, row_long, row_scaled, total_of}
use Rattle.constriction_inputs.proofs.models.mixtures.mixed.fill_from_row.Goals as goal

pub fill-requires-clause-counted : goal.fill-requires-clause-counted
fill-requires-clause-counted c =
    let given = c.args in
    let start = given.width * given.place in
    rw (
      row_between given.width given.place start given.weights.now refl,
      row_between given.width given.place start given.locations.now refl,
      row_between given.width given.place start given.scales.now refl,
      row_long given.width given.place given.weights.now c.requires.within,
      row_long given.width given.place given.locations.now (omega (arith, c.requires.within, c.requires.counted.0)),
      row_long given.width given.place given.scales.now (omega (arith, c.requires.within, c.requires.counted.1)),
    ) (refl, refl)

pub fill-requires-clause-scaled : goal.fill-requires-clause-scaled
fill-requires-clause-scaled c =
    let given = c.args in
    let same = row_between given.width given.place (given.width * given.place) given.scales.now refl in
    λ k inside. rw same (row_scaled given.width given.place given.scales.now (omega (arith, c.requires.within, c.requires.counted.1)) c.requires.scaled k (rw same at inside))

pub fill-requires-clause-room : goal.fill-requires-clause-room
fill-requires-clause-room c =
    let given = c.args in
    rw (row_between given.width given.place (given.width * given.place) given.weights.now refl, row_long given.width given.place given.weights.now c.requires.within) c.requires.room

pub returns : goal.returns
returns c =
    let given = c.args in
    let start = given.width * given.place in
    let filled = rw (
      row_between given.width given.place start given.weights.now refl,
      row_between given.width given.place start given.locations.now refl,
      row_between given.width given.place start given.scales.now refl,
    ) at c.fill.ensures.components in
    let weights = row_at_index given.width given.place given.weights.now in
    let long = row_long given.width given.place given.weights.now c.requires.within in
    let total = ap total_weight filled
    ∙ total_of given.family weights (row_at_index given.width given.place given.locations.now) (row_at_index given.width given.place given.scales.now)
    (row_long given.width given.place given.locations.now (omega (arith, c.requires.within, c.requires.counted.0)) ∙ sym long)
    (row_long given.width given.place given.scales.now (omega (arith, c.requires.within, c.requires.counted.1)) ∙ sym long) in
    record {
      components = filled;
      some = omega (arith, total, c.requires.mixable.0);
      most = omega (arith, total, c.requires.mixable.1);
      capacity = c.fill.ensures.capacity;
    }
