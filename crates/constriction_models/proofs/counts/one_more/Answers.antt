use Rattle.std.specs.Prelude.{◌+◌}
use Rattle.std.proofs.Common.{arith}
use Rattle.constriction_models.proofs.Dividing.{reach_yes, reach_no}
use Rattle.constriction_models.proofs.counts.one_more.Goals as goal

pub returns-then-ties-eq0-clause-more : goal.returns-then-ties-eq0-clause-more
returns-then-ties-eq0-clause-more c = omega (arith, reach_no (c.args.least + 1) c.args.measure (omega (arith, c.if-measure-least.true)))

pub returns-then-measure-least-clause-more : goal.returns-then-measure-least-clause-more
returns-then-measure-least-clause-more c = omega (arith, c.if-ties-eq0.false, reach_no (c.args.least + 1) c.args.measure (omega (arith, c.if-measure-least.true)))

pub returns-then-measure-least-clause-within : goal.returns-then-measure-least-clause-within
returns-then-measure-least-clause-within c = omega (arith, reach_yes 1 c.args.measure (omega (arith, c.if-measure-least.true, c.requires)))

pub returns-then-measure-least-clause-tied : goal.returns-then-measure-least-clause-tied
returns-then-measure-least-clause-tied c = λ some. omega (arith, some, c.if-ties-eq0.false, reach_yes c.args.least c.args.measure (omega (arith, c.if-measure-least.true)), reach_no (c.args.least + 1) c.args.measure (omega (arith, c.if-measure-least.true)))

pub returns-then-measure-least-2-clause-more : goal.returns-then-measure-least-2-clause-more
returns-then-measure-least-2-clause-more c = omega (arith, reach_yes (c.args.least + 1) c.args.measure (omega (arith, c.if-measure-least-2.true)))

pub returns-then-measure-least-2-clause-within : goal.returns-then-measure-least-2-clause-within
returns-then-measure-least-2-clause-within c = omega (arith, reach_yes 1 c.args.measure (omega (arith, c.if-measure-least-2.true)))

pub returns-then-measure-least-2-clause-tied : goal.returns-then-measure-least-2-clause-tied
returns-then-measure-least-2-clause-tied c = λ _. omega (arith, reach_yes c.args.least c.args.measure (omega (arith, c.if-measure-least-2.true)), reach_yes (c.args.least + 1) c.args.measure (omega (arith, c.if-measure-least-2.true)))

pub returns-else-measure-least-2-clause-more : goal.returns-else-measure-least-2-clause-more
returns-else-measure-least-2-clause-more c = omega (arith, reach_no (c.args.least + 1) c.args.measure (omega (arith, c.if-measure-least-2.false)))

pub returns-else-measure-least-2-clause-tied : goal.returns-else-measure-least-2-clause-tied
returns-else-measure-least-2-clause-tied c =
    λ _. omega (arith, reach_no c.args.least c.args.measure (omega (arith, c.if-measure-least.false, c.if-measure-least-2.false)), reach_no (c.args.least + 1) c.args.measure (omega (arith, c.if-measure-least-2.false)))
