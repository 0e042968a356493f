use Rattle.std.proofs.Common.{◌≡◌, ◌≤◌, ◌<◌, ◌-◌, drop, length}
use Rattle.std.specs.Prelude.{reverse, IfSome}
use Rattle.constriction_base.specs.Models.{AreModels}
use Rattle.constriction_stack.specs.Ans.{IsNormalized}
use Rattle.constriction_stack.specs.Symbols.{EncodesAll}
use Rattle.constriction_words.specs.Reciprocals.{IsReciprocalOf}
use Rattle.constriction_inputs.specs.Items.{HasAt, HasInterval}
use Rattle.constriction_calls.proofs.ans.encoding.encode_ahead.Given as goal

abbrev pub invariant-loop-rest : goal.invariant-loop-rest
invariant-loop-rest g l =
    let items = g.L.ItemList.list_items l.fn.list in
    record {
      same : g.L.ItemList.list_items l.list ≡ items;
      some : 0 < l.rest;
      within : l.rest ≤ length items;
      valid : IsNormalized g.Word.Natural.BITS g.State.Natural.BITS l.coder.state;
      models : AreModels g.Word.Natural.BITS (drop l.rest items);
      coded : EncodesAll g.Word.Natural.BITS g.State.Natural.BITS (reverse (drop l.rest items)) l.initial.coder.state l.coder.state;
      at : HasAt items (l.rest - 1) (HasInterval g.row.PRECISION g.P.Natural.BITS (g.P.Natural.number l.found.0) (g.P.BitArray.nonzero_number l.found.1));
      reciprocal : IfSome l.found.2 (λ r. IsReciprocalOf r (g.P.BitArray.nonzero_number l.found.1));
    }

abbrev pub decreases-loop-rest : goal.decreases-loop-rest
decreases-loop-rest g l = l.rest
