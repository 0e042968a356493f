use Rattle.std.proofs.Common.{◌≡◌, ◌*◌, ◌<◌, ℕ}
use Rattle.constriction_inputs.specs.Floats.{IsFloatRow}
use Rattle.constriction_inputs.specs.Mixtures.{row_at_index}
use Rattle.constriction_inputs.proofs.quantized.floats.are_rows.Given as goal

abbrev pub invariant-loop-done : goal.invariant-loop-done
invariant-loop-done g l = record {
  begins : l.start ≡ l.width * l._done;
  done : (place : ℕ) → place < l._done → IsFloatRow g.row.PRECISION (row_at_index l.width place l.floats);
}
