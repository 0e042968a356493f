use Rattle.std.proofs.Common.{◌<◌, length, arith}
use Rattle.std.proofs.Math.Pow.{pow_mono}
use Rattle.constriction_inputs.proofs.Guiding.{below_buckets}
use Rattle.constriction_inputs.proofs.models.guided.Guided.guess.Goals as goal

pub shift_right-requires : goal.shift_right-requires
shift_right-requires g c = omega (arith, c.args.self.now.cut.0, c.args.self.now.row.fits)

pub to_index-bucket-requires : goal.to_index-bucket-requires
to_index-bucket-requires g c =
    let cut = c.args.self.now.cut in
    omega (arith, c.shift_right.ensures, below_buckets (g.P.Natural.number c.args.quantile) g.row.PRECISION c.args.self.now.shift (omega (arith, cut.0)) c.requires, pow_mono cut.1)

pub index-interval-requires : goal.index-interval-requires
index-interval-requires g c =
    let self = c.args.self.now in
    omega (arith, c.if-bucket-len.false, c.len.ensures, self.symbols.ok.0, self.intervals.ok.0, self.guessed.counted)

pub returns : goal.returns
returns g c =
    let self = c.args.self.now in
    let inside : c.to_index-bucket.result < length self.symbols.items = omega (arith, c.if-bucket-len.false, c.len.ensures, self.symbols.ok.0) in
    self.guessed.each c.to_index-bucket.result _ c.index-interval.result.now inside c.index-symbol.ensures c.index-interval.ensures
