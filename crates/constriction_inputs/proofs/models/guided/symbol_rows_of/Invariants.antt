use Rattle.std.proofs.Common.{◌≡◌, ◌<◌, ◌^◌, length, take, vec_len, vec_capacity}
use Rattle.std.specs.Prelude.{sum_by}
use Rattle.constriction_inputs.proofs.Guiding.{AreFirstRows}
use Rattle.constriction_inputs.proofs.models.guided.symbol_rows_of.Given as goal

abbrev pub invariant-loop-symbol : goal.invariant-loop-symbol
invariant-loop-symbol g l =
    let number = g.P.Natural.number in
    record {
      capacity : vec_capacity l.rows ≡ length l.weights;
      counted : vec_len l.rows ≡ l.symbol;
      left : sum_by number (take l.symbol l.weights) < 2 ^ g.row.PRECISION → number l.left ≡ sum_by number (take l.symbol l.weights);
      are : AreFirstRows number l.weights l.divides l.rows.items;
    }
