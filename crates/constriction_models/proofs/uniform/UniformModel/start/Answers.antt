use Rattle.std.proofs.Common.{◌^◌, arith, sym, ◌∙◌}
use Rattle.constriction_models.specs.laws.Even.{even_inside, even_end}
use Rattle.constriction_models.proofs.Words.{power_in_word}
use Rattle.constriction_models.proofs.uniform.UniformModel.start.Goals as goal

pub returns-then-symbol-self : goal.returns-then-symbol-self
returns-then-symbol-self g c =
    let m = c.args.self.now in
    rw m.share (sym (even_inside (2 ^ g.row.PRECISION) m.count c.args.symbol c.if-symbol-self.true))

pub returns : goal.returns
returns g c =
    let m = c.args.self.now in
    power_in_word g.row.PRECISION (omega (arith, m.fits, g.met.Probability.WordOf.width_law)) ∙ sym (even_end (2 ^ g.row.PRECISION) m.count c.args.symbol c.if-symbol-self.false)
