use Rattle.std.proofs.Common.{◌≡◌, length, map, take}
use Rattle.constriction_inputs.proofs.quantized.counts.put.Given as goal

abbrev pub invariant-loop-i : goal.invariant-loop-i
invariant-loop-i g l = record {
  done : map g.P.Natural.number (take l.i l.weights) ≡ take l.i l.made;
  counted : length l.weights ≡ length l.made;
}
