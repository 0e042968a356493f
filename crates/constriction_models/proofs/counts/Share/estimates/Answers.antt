use Rattle.std.specs.Prelude.{◌<◌, length}
use Rattle.std.proofs.Common.{arith}
use Rattle.std.proofs.lemmas.List.Sums.{get_or-le-sum_by}
use Rattle.constriction_models.specs.Counts.{kept}
use Rattle.constriction_models.proofs.counts.Share.estimates.Goals as goal

pub estimate-share-requires-clause-within : goal.estimate-share-requires-clause-within
estimate-share-requires-clause-within c =
    let inside : c.loop-count.count-index < length c.args.counts.now = omega arith in
    omega (arith, get_or-le-sum_by (kept c.args.self.now.limit) c.args.counts.now c.loop-count.count-index 0 inside, c.requires.kept)
