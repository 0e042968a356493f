-- Sealed words with others behind them lie within the run too, where a state is two words.
use Rattle.std.proofs.Common.{◌≡◌, ℕ, ◌/◌, List, [], ◌∷◌, ◌++◌, subst}
use Rattle.constriction_base.specs.Steps.{Step, AreSteps, IsSizes, AreWords}
use Rattle.constriction_base.specs.Models.{Item, AreModels}
use Rattle.constriction_queue.specs.Range.{Run, Within, run, sealed, initial}
use Rattle.constriction_queue.proofs.ReadingRuns.{law_reads}
use Rattle.constriction_queue.proofs.SealedRuns.{sealed_reads_followed, words-sealed}
use Rattle.constriction_queue.specs.Symbols.{NarrowsAll, FindsAll}
use Rattle.constriction_queue.proofs.Entries.{entries, are_steps, run_is}
use Rattle.constriction_base.proofs.WordLists.{words-append}

within_before : {S : Type 0} (w s : ℕ) (item : Item S) (items : List (Item S)) (last : Run) (rest : List ℕ) → IsSizes w s → s / w ≡ 2
    → AreModels w (item ∷ items) → AreWords w rest → NarrowsAll w s (item ∷ items) (initial s) last → Within w s (sealed w s last ++ rest) last
within_before w s item items last rest z two ms words h =
    let e : Step = record { precision = item.model.precision; left = h.1.0; p = h.1.1 } in
    let es : List Step = entries w s items h.0 last h.2 in
    let steps : AreSteps w (e ∷ es) = are_steps w s (item ∷ items) (initial s) last h ms in
    let r : Run = run w s (e ∷ es) (initial s) in
    subst (λ (r : Run). Within w s (sealed w s r ++ rest) r) (run_is w s (item ∷ items) (initial s) last h)
    ((law_reads w s (sealed w s r ++ rest) z (words-append w (sealed w s r) rest (words-sealed w s r) words) e es steps).0
    (sealed_reads_followed w s (e ∷ es) rest z two steps words))

pub read_before : {S : Type 0} (w s : ℕ) (items : List (Item S)) (last : Run) (rest : List ℕ) → IsSizes w s → s / w ≡ 2
    → AreModels w items → AreWords w rest → NarrowsAll w s items (initial s) last
    → (Within w s (sealed w s last ++ rest) last → FindsAll w s (sealed w s last ++ rest) items (initial s) last)
    → FindsAll w s (sealed w s last ++ rest) items (initial s) last
read_before w s [] last rest z two ms words h law = h
read_before w s (item ∷ items) last rest z two ms words h law = law (within_before w s item items last rest z two ms words h)
