-- Which words are read as symbols.
use Rattle.std.proofs.Common.{ℕ, List, [], ◌∷◌, subst, arith}
use Rattle.constriction_base.specs.Steps.{Step, IsSizes, AreWords}
use Rattle.constriction_base.specs.Models.{Item, IsModel, AreModels}
use Rattle.constriction_base.proofs.Entering.{entry_is_step}
use Rattle.constriction_queue.specs.Range.{Run, IsInterval, Within, sealed, initial}
use Rattle.constriction_queue.proofs.ReadingRuns.{law_reads, takes_narrow}
use Rattle.constriction_queue.specs.Symbols.{Narrows, Finds, NarrowsAll, FindsAll}
use Rattle.constriction_queue.proofs.Entries.{entries, are_steps, run_is, intervals, as_encodes, reads_entries}
use Rattle.constriction_queue.proofs.Sealing.{less_behind, sealed_within_interval}

-- words that were read as some symbols lie within their run
pub within_read : {S : Type 0} (w s : ℕ) (words : List ℕ) (item : Item S) (items : List (Item S)) (last : Run) → IsSizes w s → AreWords w words → AreModels w (item ∷ items)
    → FindsAll w s words (item ∷ items) (initial s) last → Within w s words last
within_read w s words item items last z are ms h =
    let coded = as_encodes w s words (item ∷ items) (initial s) last h in
    let e : Step = record { precision = item.model.precision; left = h.1.0; p = h.1.1 } in
    let es : List Step = entries w s items h.0 last (as_encodes w s words items h.0 last h.2) in
    subst (λ (r : Run). Within w s words r) (run_is w s (item ∷ items) (initial s) last coded)
    ((law_reads w s words z are e es (are_steps w s (item ∷ items) (initial s) last coded ms)).0 (reads_entries w s words (item ∷ items) (initial s) last h))

-- what holds of the decodes of symbols whose words lie within their run holds of those behind any interval
pub read_behind : {S : Type 0} (w s : ℕ) (since : List (Item S)) (middle last : Run)
    → IsSizes w s → AreModels w since → IsInterval w s middle → NarrowsAll w s since middle last
    → (Within w s (sealed w s last) last → FindsAll w s (sealed w s last) since middle last)
    → FindsAll w s (sealed w s last) since middle last
read_behind w s [] middle last z ss v k law = k
read_behind w s (item ∷ since) middle last z ss v k law =
    law (sealed_within_interval w s last z (intervals w s (item ∷ since) middle last z ss v k)
    (less_behind w s z item since middle last ss v k))

-- where words lie within the run behind an item, it is read there, and they lie within the run before it
pub read_before : {S : Type 0} (w s : ℕ) → IsSizes w s → (words : List ℕ) → AreWords w words → (item : Item S) (old new : Run) → IsModel w item.model → IsInterval w s old
    → Narrows w s item.model item.symbol old new → Within w s words new → Finds w s words item.model item.symbol old new × Within w s words old
read_before w s z words are item old new m v h i =
    let step = entry_is_step w item.model.precision item.model.precision h.0 h.1 item.model.table item.symbol m.lawful h.2 (m.some_bits, omega arith) m.within_word in
    let here = takes_narrow w s words z are (record { precision = item.model.precision; left = h.0; p = h.1 }) old step v (subst (λ (r : Run). Within w s words r) h.3 i) in
    ((h.0, h.1, h.2, (here.0, h.3)), here.1)
