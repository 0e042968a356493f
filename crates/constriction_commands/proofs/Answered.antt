-- What a command answers, put together from what its parts gave.
use Rattle.std.proofs.Common.{◌≡◌, ℕ, ◌-◌, ◌^◌, List, ◌∷◌, suc, length, reverse, get_or, Fits, w32, arith}
use Rattle.constriction_base.specs.Models.{items_of}
use Rattle.constriction_base.specs.Readings.{BeginsHigh}
use Rattle.constriction_stack.specs.Ans.{AnsState, empty, exported, filled}
use Rattle.constriction_stack.specs.Symbols.{EncodesAll, DecodesAll}
use Rattle.constriction_queue.specs.Range.{Run, initial, sealed}
use Rattle.constriction_commands.specs.Lines.{line_of, second_line}
use Rattle.constriction_commands.specs.Inputs.{TextHasSymbols, TextHasWords}
use Rattle.constriction_commands.specs.Coding.{of_24_bits}
use Rattle.constriction_queue.specs.Symbols.{NarrowsAll, FindsAll}
use Rattle.constriction_commands.specs.commands.AnsEncode.{IsAnsEncoded}
use Rattle.constriction_commands.specs.commands.AnsDecode.{IsAnsDecoded}
use Rattle.constriction_commands.specs.commands.RangeEncode.{IsRangeEncoded}
use Rattle.constriction_commands.specs.commands.RangeDecode.{IsRangeDecoded}
use Rattle.constriction_commands.proofs.Reading.{numbers_of-small}

-- words that a text gives have 32 bits
pub words_fit : {text : List ℕ} {table : List (ℕ × ℕ × ℕ)} {count : ℕ} {words : List ℕ} → TextHasWords text table count words → (i : ℕ) → Fits w32 (get_or words i 0)
words_fit {text} {table} {count} {words} given i = omega (arith, numbers_of-small (2 ^ 32 - 1) (second_line text) (count ∷ words) given.words_line (suc i))

pub ans_encoded : {text answer : List ℕ} {table : List (ℕ × ℕ × ℕ)} {symbols : List ℕ} (words : List ℕ) (state : AnsState)
    → TextHasSymbols text table symbols → EncodesAll 32 64 (items_of (of_24_bits table) (reverse symbols)) empty state → reverse words ≡ exported 32 state → answer ≡ line_of words
    → IsAnsEncoded text answer
ans_encoded {text} {answer} {table} {symbols} words state given encoded exports printed = record {
  table = table;
  symbols = symbols;
  words = words;
  state = state;
  given = given;
  encoded = encoded;
  words_of_state = exports;
  printed = printed;
}

pub ans_decoded : {text answer : List ℕ} {table : List (ℕ × ℕ × ℕ)} {count : ℕ} {words : List ℕ} (symbols : List ℕ) (state : AnsState)
    → TextHasWords text table count words → BeginsHigh (reverse words) → DecodesAll 32 64 (items_of (of_24_bits table) symbols) (filled 32 64 0 (reverse words)) state → length symbols ≡ count → answer ≡ line_of symbols
    → IsAnsDecoded text answer
ans_decoded {text} {answer} {table} {count} {words} symbols state given high decoded counted printed = record {
  table = table;
  count = count;
  words = words;
  symbols = symbols;
  state = state;
  given = given;
  high = high;
  decoded = decoded;
  counted = counted;
  printed = printed;
}

pub range_encoded : {text answer : List ℕ} {table : List (ℕ × ℕ × ℕ)} {symbols : List ℕ} (run : Run)
    → TextHasSymbols text table symbols → NarrowsAll 32 64 (items_of (of_24_bits table) symbols) (initial 64) run → answer ≡ line_of (sealed 32 64 run)
    → IsRangeEncoded text answer
range_encoded {text} {answer} {table} {symbols} run given encoded printed = record {
  table = table;
  symbols = symbols;
  run = run;
  given = given;
  encoded = encoded;
  printed = printed;
}

pub range_decoded : {text answer : List ℕ} {table : List (ℕ × ℕ × ℕ)} {count : ℕ} {words : List ℕ} (symbols : List ℕ) (run : Run)
    → TextHasWords text table count words → FindsAll 32 64 words (items_of (of_24_bits table) symbols) (initial 64) run → length symbols ≡ count → answer ≡ line_of symbols
    → IsRangeDecoded text answer
range_decoded {text} {answer} {table} {count} {words} symbols run given decoded counted printed = record {
  table = table;
  count = count;
  words = words;
  symbols = symbols;
  run = run;
  given = given;
  decoded = decoded;
  counted = counted;
  printed = printed;
}
