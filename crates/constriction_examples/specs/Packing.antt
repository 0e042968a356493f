-- The 32-bit words that a new stack coder exports after encoding symbols, and the symbols that words decode to.
use Rattle.std.specs.Prelude.{◌≡◌, ℕ, ◌%◌, ◌^◌, List, map, reverse}
use Rattle.constriction.specs.stack.Ans.{AnsState, empty, exported, filled}
use Rattle.constriction.specs.Models.{Item}
use Rattle.constriction.specs.stack.Symbols.{EncodesAll, DecodesAll}

-- The numbers of these words, in the order in which a decoder reads them: the last word first.
abbrev pub reading_order : List ℕ → List ℕ
reading_order words = map (λ word. word % 2 ^ 32) (reverse words)

-- A new coder exports these words after it encodes the symbols from the last to the first, each under its model.
abbrev pub ArePacked : List (Item ℕ) → List ℕ → Type 0
ArePacked items words = (state : AnsState)
    × EncodesAll 32 64 (reverse items) empty state × (reading_order words ≡ exported 32 state)

-- A coder that imports these words decodes these symbols, each under its model.
abbrev pub AreUnpacked : List (Item ℕ) → List ℕ → Type 0
AreUnpacked items words = (last : AnsState) × DecodesAll 32 64 items (filled 32 64 0 (reading_order words)) last
