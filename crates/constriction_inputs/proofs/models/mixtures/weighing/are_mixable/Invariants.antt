use Rattle.std.proofs.Common.{◌≡◌, ◌*◌, ◌<◌, ℕ}
use Rattle.constriction_inputs.specs.Mixtures.{IsMixable, row_at_index}
use Rattle.constriction_inputs.proofs.models.mixtures.weighing.are_mixable.Given as goal

abbrev pub invariant-loop-done : goal.invariant-loop-done
invariant-loop-done l = record {
  begins : l.start ≡ l.width * l._done;
  done : (place : ℕ) → place < l._done → IsMixable (row_at_index l.width place l.weights);
}
