use Rattle.std.specs.Prelude.{◌+◌, ◌-◌, ◌/◌, ◌^◌, ◌≤◌}
use Rattle.std.proofs.Common.{arith, ap}
use Rattle.constriction_models.specs.laws.Even.{even_low, even_high, even_end}
use Rattle.constriction_models.proofs.uniform.UniformModel.symbol_at.Goals as goal

pub returns-then-symbol-self-clause-above : goal.returns-then-symbol-self-clause-above
returns-then-symbol-self-clause-above g c =
    let m = c.args.self.now in
    even_low (2 ^ g.row.PRECISION) m.count c.args.quantile _ c.if-symbol-self.true (rw (ap (λ n. c.args.quantile / n) m.share) (omega arith))

pub returns-then-symbol-self-clause-below : goal.returns-then-symbol-self-clause-below
returns-then-symbol-self-clause-below g c =
    let m = c.args.self.now in
    even_high (2 ^ g.row.PRECISION) m.count c.args.quantile _ (omega (arith, m.some)) m.room c.requires (rw (ap (λ n. c.args.quantile / n) m.share) (omega arith))

pub returns-clause-above : goal.returns-clause-above
returns-clause-above g c =
    let m = c.args.self.now in
    let past : m.count ≤ c.args.quantile / (2 ^ g.row.PRECISION / m.count) = rw (ap (λ n. c.args.quantile / n) m.share) at c.if-symbol-self.false in
    even_low (2 ^ g.row.PRECISION) m.count c.args.quantile (m.count - 1) (omega (arith, m.some)) (omega arith)

pub returns-clause-below : goal.returns-clause-below
returns-clause-below g c =
    let m = c.args.self.now in
    omega (arith, c.requires, even_end (2 ^ g.row.PRECISION) m.count (m.count - 1 + 1) (omega arith))
