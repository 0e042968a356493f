-- The encodes of a list, taken back from the last one.
use Rattle.std.proofs.Common.{ℕ, List, [], ◌∷◌, sym}
use Rattle.std.specs.Prelude.{reverse}
use Rattle.constriction_base.specs.Steps.{IsSizes, Trace}
use Rattle.constriction_base.specs.Models.{Item, AreModels}
use Rattle.constriction_base.proofs.Trace.{Trace-turned}
use Rattle.constriction_queue.specs.Range.{Run, IsInterval}
use Rattle.constriction_queue.specs.Symbols.{NarrowsAll}
use Rattle.constriction_queue.proofs.Entries.{interval_after}
use Rattle.constriction_laws.specs.queue.Undone.{UndoesEncode}

module _ {S : Type 0} (w s : ℕ) where
  -- the encodes from the last one back
  pub taken_back : (items : List (Item S)) (old last : Run) → IsSizes w s → AreModels w items → IsInterval w s old → NarrowsAll w s items old last
      → Trace (UndoesEncode w s) (reverse items) last old
  taken_back [] old last z ms v h = sym h
  taken_back (item ∷ items) old last z ms v h =
      Trace-turned (UndoesEncode w s) item items last h.0 old (taken_back items h.0 last z ms.1 (interval_after w s item old h.0 z ms.0 v h.1) h.2) (v, h.1)
