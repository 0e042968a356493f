use Rattle.std.proofs.Common.{rules}
use Rattle.constriction_inputs.proofs.FloatCounts.{counts_written}
use Rattle.constriction_inputs.proofs.quantized.floats.put_counts_of_floats.Goals as goal

pub returns : goal.returns
returns g c = record {
  call = counts_written g.row.PRECISION c.args.width c.rows_in-count.result c.args.floats.now c.args.counts.now c.put_rows.new.counts c.requires c.rows_in-count.ensures.rows (search rules) (search rules) (search rules) c.put_rows.ensures;
}
