use Rattle.std.proofs.Common.{ℕ, ℤ, arith, zip}
use Rattle.std.proofs.lemmas.Slice.Zip.{length-zip}
use Rattle.constriction_inputs.specs.Quantized.{below_by, family_of, symbols_in}
use Rattle.constriction_inputs.proofs.FamilyTables.{known_places, places_known}
use Rattle.constriction_inputs.proofs.models.families.FamiliesEncoderModels.know.Goals as goal

pub returns : goal.returns
returns g c =
    let self = c.args.self.now in
    let xs = g.S.Symbol.numbers c.args.symbols.now in
    let same = c.requires.0 in
    let below = λ (at : ℤ × ℕ). below_by (family_of self.family) at.0 at.1 in
    let parameters = zip self.locations.now self.scales.now in (
      λ yes. places_known g.row.PRECISION below self.min (symbols_in self.min self.max) parameters xs (c.are_places.ensures.0 yes),
      λ known. c.are_places.ensures.1
          (known_places g.row.PRECISION below self.min (symbols_in self.min self.max) parameters xs (omega (arith, length-zip self.locations.now self.scales.now, same.0, same.1)) known),
    )
