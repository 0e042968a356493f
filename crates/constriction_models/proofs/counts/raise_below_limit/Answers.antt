use Rattle.std.proofs.Common.{sym, ◌∙◌}
use Rattle.constriction_models.proofs.Sharing.{raised_low, raised_high}
use Rattle.constriction_models.proofs.counts.raise_below_limit.Goals as goal

pub returns-then-count-limit : goal.returns-then-count-limit
returns-then-count-limit c = c.positive.ensures ∙ sym (raised_low c.args.limit c.args.count c.if-count-limit.true)

pub returns : goal.returns
returns c = sym (raised_high c.args.limit c.args.count c.if-count-limit.false)
