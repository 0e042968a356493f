use Rattle.std.proofs.Common.{◌≡◌, ◌+◌, length, map, take, vec_len, vec_capacity}
use Rattle.std.specs.Prelude.{sum_by}
use Rattle.constriction_base.specs.Tables.{Sums}
use Rattle.constriction_base.proofs.weights.starts.starts_of.Given as goal

abbrev pub invariant-loop-weight : goal.invariant-loop-weight
invariant-loop-weight g l =
    let number = g.Probability.Natural.number in
    record {
      left : number l.left ≡ sum_by number (take l.weight-index l.weights);
      capacity : vec_capacity l.starts ≡ length l.weights + 1;
      counted : vec_len l.starts ≡ l.weight-index + 1;
      sums : Sums number l.weights (map number l.starts.items) (l.weight-index + 1);
    }
