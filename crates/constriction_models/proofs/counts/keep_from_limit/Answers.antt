use Rattle.std.proofs.Common.{sym}
use Rattle.constriction_models.proofs.Sharing.{kept_low, kept_high}
use Rattle.constriction_models.proofs.counts.keep_from_limit.Goals as goal

pub returns-then-count-limit : goal.returns-then-count-limit
returns-then-count-limit c = sym (kept_low c.args.limit c.args.count c.if-count-limit.true)

pub returns-else-count-limit : goal.returns-else-count-limit
returns-else-count-limit c = sym (kept_high c.args.limit c.args.count c.if-count-limit.false)
