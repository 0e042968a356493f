use Rattle.std.proofs.Common.{◌≡◌, length, map, take}
use Rattle.constriction_models.specs.Floats.{weight_count, binary_length, units}
use Rattle.constriction_models.proofs.floats.Scale.put_all_above_0.Given as goal

abbrev pub invariant-loop-i : goal.invariant-loop-i
invariant-loop-i l = record {
  done : take l.i l.counts ≡ map (weight_count (binary_length 2098 (units l.self.most))) (take l.i l.floats);
  counted : length l.counts ≡ length l.floats;
}
