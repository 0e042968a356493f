use Rattle.std.proofs.Common.{◌≡◌, ℕ, ◌*◌, ◌%◌, ◌^◌, ◌<◌, ◌≤◌, ◌+◌, length, map, vec_len, vec_capacity}
use Rattle.std.specs.Prelude.{slice_index}
use Rattle.constriction_base.specs.Hints.{AreHints, AreBucketRows}
use Rattle.constriction_base.proofs.weights.rows.make_rows.Given as goal

-- the buckets so far have their rows, none with a symbol above the symbol, which begins at or below the next bucket
abbrev pub invariant-loop-bucket : goal.invariant-loop-bucket
invariant-loop-bucket g l =
    let number = g.Probability.Natural.number in
    let starts = map number l.starts in
    record {
      first : number l.first ≡ l.bucket * 2 ^ l.shift % 2 ^ g.Probability.Natural.BITS;
      known : l.symbol < length starts;
      from : slice_index starts l.symbol ≤ l.bucket * 2 ^ l.shift;
      len : length l.rows.items ≡ l.bucket;
      counted : vec_len l.rows ≡ l.bucket;
      capacity : vec_capacity l.rows ≡ l.count + 1;
      hinted : AreHints starts (2 ^ g.row.PRECISION) (2 ^ l.shift) (map (λ row. row.symbol) l.rows.items);
      lower : (k : ℕ) → k < length (map (λ row. row.symbol) l.rows.items) → slice_index (map (λ row. row.symbol) l.rows.items) k ≤ l.symbol;
      listed : AreBucketRows number starts (2 ^ g.row.PRECISION) l.rows.items;
    }
