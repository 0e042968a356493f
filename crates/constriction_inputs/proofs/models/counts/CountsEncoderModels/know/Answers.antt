use Rattle.constriction_inputs.proofs.CountTables.{all_known, known_all}
use Rattle.constriction_inputs.proofs.models.counts.CountsEncoderModels.know.Goals as goal

pub returns : goal.returns
returns g c =
    let self = c.args.self.now in
    let symbols = g.S.Symbol.numbers c.args.symbols.now in (
      λ yes. all_known g.row.PRECISION self.width self.counts.now symbols c.requires.0 (c.are_below.ensures.0 yes),
      λ known. c.are_below.ensures.1 (known_all g.row.PRECISION self.width self.counts.now symbols known),
    )
