use Rattle.std.proofs.Common.{◌≡◌, ◌≤◌, length, take, vec_len, vec_capacity}
use Rattle.std.specs.Prelude.{sum_by}
use Rattle.constriction_inputs.specs.Guided.{AreGuesses}
use Rattle.constriction_inputs.proofs.models.guided.guesses_of.Given as goal

abbrev pub invariant-loop-bucket : goal.invariant-loop-bucket
invariant-loop-bucket g l =
    let number = g.P.Natural.number in
    record {
      room : vec_capacity l.intervals ≡ l.count;
      counted : vec_len l.intervals ≡ l._bucket;
      capacity : vec_capacity l.symbols ≡ l.count;
      as_many : vec_len l.symbols ≡ l._bucket;
      within : l.symbol ≤ length l.weights;
      left : number l.start ≡ sum_by number (take l.symbol l.weights);
      are : AreGuesses number l.weights l.intervals.items l.symbols.items;
    }
