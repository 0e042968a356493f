use Rattle.std.proofs.Common.{◌≡◌, ◌*◌, length, take}
use Rattle.constriction_inputs.specs.Floats.{counts_of_rows}
use Rattle.constriction_inputs.proofs.quantized.floats.put_rows.Given as goal

abbrev pub invariant-loop-done : goal.invariant-loop-done
invariant-loop-done g l = record {
  begins : l.start ≡ l.width * l._done;
  done : take l.start l.counts ≡ counts_of_rows l.width l._done l.floats;
  same : length l.counts ≡ length l.floats;
}
