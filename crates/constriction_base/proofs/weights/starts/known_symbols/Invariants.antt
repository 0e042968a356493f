use Rattle.std.proofs.Common.{◌≡◌, ◌<◌, ◌≤◌, ◌-◌, ◌^◌, take}
use Rattle.std.specs.Prelude.{sum_by}
use Rattle.constriction_base.proofs.weights.starts.known_symbols.Given as goal

abbrev pub invariant-loop-i : goal.invariant-loop-i
invariant-loop-i g l =
    let number = g.Probability.Natural.number in
    record {
      small : number l.left < 2 ^ g.row.PRECISION;
      within : l.known ≤ l.i;
      before : l.known ≡ 0 → number l.left ≡ sum_by number (take l.i l.weights);
      less : 0 < l.known → sum_by number (take (l.known - 1) l.weights) < 2 ^ g.row.PRECISION;
      last : 0 < l.known → 2 ^ g.row.PRECISION - sum_by number (take (l.known - 1) l.weights) < 2 ^ g.Probability.Natural.BITS;
      total_to : 0 < l.known → sum_by number (take l.known l.weights) ≡ 2 ^ g.row.PRECISION;
      total_of : 0 < l.known → sum_by number (take l.i l.weights) ≡ 2 ^ g.row.PRECISION;
    }
