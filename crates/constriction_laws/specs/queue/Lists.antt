-- Shared premises and conclusions of the laws about lists of encodes and decodes of the range coder. The parameter
-- `holds` is what a law concludes from the premises.
use Rattle.std.specs.Prelude.{◌≡◌, ℕ, List, ◌++◌, drop}
use Rattle.constriction_base.specs.Models.{Item, AreModels, models}
use Rattle.constriction_base.specs.Steps.{Step, AreWords, IsSizes}
use Rattle.constriction_queue.specs.Encoder.{Encoder, HasHeads, Without}
use Rattle.constriction_queue.specs.Range.{Run, IsInterval, ReadAs, Within, initial, run, sealed}
use Rattle.constriction_queue.specs.SelfDelimiting.{SelfDelimits}
use Rattle.constriction_queue.specs.Symbols.{FindsAll, NarrowsAll}

-- Behind encodes of items under lawful models, from the initial run, this holds.
abbrev pub AfterNarrows : {S : Type 0} → ℕ → ℕ → List (Item S) → Run → Type 0 → Type 0
AfterNarrows w s items last holds = IsSizes w s → AreModels w items → NarrowsAll w s items (initial s) last → holds

-- The same from any interval.
abbrev pub FromInterval : {S : Type 0} → ℕ → ℕ → List (Item S) → Run → Run → Type 0 → Type 0
FromInterval w s items old new holds =
    IsSizes w s → AreModels w items → IsInterval w s old → NarrowsAll w s items old new → holds

-- The same from any interval, where these words lie within the last run.
abbrev pub WithinEncodes : {S : Type 0} → ℕ → ℕ → List ℕ → List (Item S) → Run → Run → Type 0 → Type 0
WithinEncodes w s words items old new holds =
    IsSizes w s → AreWords w words → AreModels w items → IsInterval w s old → NarrowsAll w s items old new
    → Within w s words new → holds

-- Behind encodes of two lists, one after the other, from the initial run, this holds.
abbrev pub AfterBoth : {S : Type 0} → ℕ → ℕ → List (Item S) → List (Item S) → Run → Run → Type 0 → Type 0
AfterBoth w s before since middle last holds =
    NarrowsAll w s before (initial s) middle → NarrowsAll w s since middle last → holds

-- The same where all models are lawful.
abbrev pub AfterLists : {S : Type 0} → ℕ → ℕ → List (Item S) → List (Item S) → Run → Run → Type 0 → Type 0
AfterLists w s before since middle last holds =
    IsSizes w s → AreModels w before → AreModels w since → AfterBoth w s before since middle last holds

-- If others have the models of the items, they are the items, and this holds.
abbrev pub AreSame : {S : Type 0} → List (Item S) → List (Item S) → Type 0 → Type 0
AreSame items others holds = models others ≡ models items → (others ≡ items) × holds

-- Others that are decoded from these words and this run, under the models of the items, are the items, and lead to the
-- same run.
abbrev pub IsOneRead : {S : Type 0} → ℕ → ℕ → List ℕ → List (Item S) → List (Item S) → Run → Run → Run → Type 0
IsOneRead w s words items others old new last = FindsAll w s words others old last → AreSame items others (last ≡ new)

-- Symbols whose items are decoded from the same words and run are the same, and so is the run behind them.
abbrev pub AreFoundAlike : {A S : Type 0} → ℕ → ℕ → List ℕ → (A → List (Item S)) → A → A → Run → Run → Run → Type 0
AreFoundAlike w s words items symbols others old new last =
    FindsAll w s words (items symbols) old new → FindsAll w s words (items others) old last
    → (others ≡ symbols) × (last ≡ new)

-- Behind encodes of the items from the initial run, they are decoded from the self-delimiting words before any others.
abbrev pub AreReadBefore : {S : Type 0} → ℕ → ℕ → List (Item S) → Run → List ℕ → List ℕ → Type 0
AreReadBefore w s items last words rest =
    NarrowsAll w s items (initial s) last → SelfDelimits w s last words
    → FindsAll w s (words ++ rest) items (initial s) last

-- Before some words the items aren't decoded from these.
abbrev pub AreLostBefore : {S : Type 0} → ℕ → ℕ → List ℕ → List (Item S) → Type 0
AreLostBefore w s words items =
    (rest : List ℕ) × AreWords w rest × ((end : Run) → FindsAll w s (words ++ rest) items (initial s) end → ⊥)

-- Where a guard showed words of an encoder, and its drop took them off again, this holds.
abbrev pub AfterGuard : {B : Type 0} → ℕ → Encoder B → Encoder B → Encoder B → Type 0 → Type 0
AfterGuard count encoder shown left holds =
    HasHeads encoder shown → drop count shown.words ≡ encoder.words → Without count shown left → holds

-- The sealed words of a new encoder after the steps.
abbrev pub sealed_steps : ℕ → ℕ → List Step → List ℕ
sealed_steps w s steps = sealed w s (run w s steps (initial s))

-- The words are the self-delimiting words of a new encoder after the steps.
abbrev pub DelimitsSteps : ℕ → ℕ → List Step → List ℕ → Type 0
DelimitsSteps w s steps words = SelfDelimits w s (run w s steps (initial s)) words

-- A new decoder reads the steps from these words.
abbrev pub ReadsSteps : ℕ → ℕ → List ℕ → List Step → Type 0
ReadsSteps w s words steps = ReadAs w s words steps (initial s)
