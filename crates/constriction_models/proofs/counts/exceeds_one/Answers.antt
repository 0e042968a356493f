use Rattle.std.specs.Prelude.{◌+◌}
use Rattle.std.proofs.Common.{sym, arith}
use Rattle.constriction_models.proofs.Dividing.{reach_yes, reach_no}
use Rattle.constriction_models.proofs.counts.exceeds_one.Goals as goal

pub returns-then-measure-least : goal.returns-then-measure-least
returns-then-measure-least c = sym (reach_yes (c.args.least + 1) c.args.measure (omega (arith, c.if-measure-least.true)))

pub returns-else-measure-least : goal.returns-else-measure-least
returns-else-measure-least c = sym (reach_no (c.args.least + 1) c.args.measure (omega (arith, c.if-measure-least.false)))
