use Rattle.std.proofs.Common.{◌≡◌, ◌+◌, length, take, vec_len, vec_capacity}
use Rattle.std.specs.List.{sum_by}
use Rattle.constriction_base.specs.Tables.{Sums}
use Rattle.constriction_models.proofs.cumulative.sums_of.Given as goal

abbrev pub invariant-loop-count : goal.invariant-loop-count
invariant-loop-count g l = record {
  before : l.before ≡ sum_by g.C.Natural.number (take l.count-index l.counts);
  capacity : vec_capacity l.sums ≡ length l.counts + 1;
  counted : vec_len l.sums ≡ l.count-index + 1;
  sums : Sums g.C.Natural.number l.counts l.sums.items (l.count-index + 1);
}
