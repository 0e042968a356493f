-- Proof that one decode of the range coder returns the symbol of one encode, as the trait `StepsUndo` requires. The
-- inverse steps of the trait come in reverse order, but the range coder decodes symbols in the order of encoding. So
-- here each step takes back one encode, the last encode first, and the inverse step is a decode.
use Rattle.std.proofs.Common.{ℕ, List}
use Rattle.constriction_base.specs.Steps.{IsSizes, AreWords}
use Rattle.constriction_base.specs.Models.{Item, IsModel}
use Rattle.constriction_queue.specs.Range.{Run, IsInterval, Within}
use Rattle.constriction_queue.proofs.WordsWithin.{read_before}
use Rattle.constriction_queue.specs.Symbols.{Narrows, Finds}

-- The sizes of a coder (words of w bits, states of s bits), and the words that are read.
pub record Reading : Type 0 where
  pub w : ℕ
  pub s : ℕ
  pub are : IsSizes w s
  pub words : List ℕ
  pub are_words : AreWords w words

-- Takes an encode of the item back: leads from the interval after the encode to the valid interval before it.
abbrev pub UndoesEncode : {S : Type 0} → ℕ → ℕ → Item S → Run → Run → Type 0
UndoesEncode w s item new old = IsInterval w s old × Narrows w s item.model item.symbol old new

-- If the words lie within the interval after the encode, a decode returns the item. The words also lie within the
-- interval before the encode.
pub read_back : {S : Type 0} (g : Reading) (item : Item S) (new old : Run) → IsModel g.w item.model → Within g.w g.s g.words new
    → UndoesEncode g.w g.s item new old → Finds g.w g.s g.words item.model item.symbol old new × Within g.w g.s g.words old
read_back g item new old m i h = read_before g.w g.s g.are g.words g.are_words item old new m h.0 h.1 i
