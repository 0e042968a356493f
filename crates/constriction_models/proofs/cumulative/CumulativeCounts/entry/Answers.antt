use Rattle.std.proofs.Common.{arith}
use Rattle.std.proofs.lemmas.Nat.{pow_below}
use Rattle.constriction_models.specs.Cumulative.{differences}
use Rattle.constriction_models.specs.laws.Categorical.{shared_interval}
use Rattle.constriction_models.proofs.cumulative.CumulativeCounts.entry.Goals as goal

pub interval-requires-clause-some : goal.interval-requires-clause-some
interval-requires-clause-some g c =
    let m = c.args.self.now in
    let i = shared_interval g.row.PRECISION m.spare (differences m.sums.items) c.args.symbol m.shared m.some c.requires in
    omega (arith, i.some, c.start-left.ensures, c.start-end.ensures)

pub interval-requires-clause-fits : goal.interval-requires-clause-fits
interval-requires-clause-fits g c =
    let m = c.args.self.now in
    let i = shared_interval g.row.PRECISION m.spare (differences m.sums.items) c.args.symbol m.shared m.some c.requires in
    omega (arith, i.some, i.inside, c.start-left.ensures, pow_below _ _ m.fits)

pub interval-requires-clause-long : goal.interval-requires-clause-long
interval-requires-clause-long g c =
    let m = c.args.self.now in
    let i = shared_interval g.row.PRECISION m.spare (differences m.sums.items) c.args.symbol m.shared m.some c.requires in
    omega (arith, i.inside, c.start-end.ensures, pow_below _ _ m.fits)
