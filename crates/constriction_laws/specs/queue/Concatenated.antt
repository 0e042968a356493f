-- Lists of symbols as self-delimiting words, which can be concatenated.
use Rattle.std.specs.Prelude.{ℕ, List}
use Rattle.constriction_base.specs.Models.{Item}
use Rattle.constriction_queue.specs.Range.{Run, initial}
use Rattle.constriction_queue.specs.SelfDelimiting.{SelfDelimits}
use Rattle.constriction_queue.specs.Symbols.{NarrowsAll, FindsAll}

-- A new encoder encodes the items and seals them as these words, which any words may follow.
abbrev pub DelimitsItems : {S : Type 0} → ℕ → ℕ → List (Item S) → List ℕ → Type 0
DelimitsItems w s items words = (last : Run) × NarrowsAll w s items (initial s) last × SelfDelimits w s last words

-- A new decoder of the words returns these items.
abbrev pub ReadsItems : {S : Type 0} → ℕ → ℕ → List ℕ → List (Item S) → Type 0
ReadsItems w s words items = (last : Run) × FindsAll w s words items (initial s) last
