-- Contracts of the C functions with 32-bit words, 64-bit states and a precision of 24 bits. Each contract takes the
-- values of a function's arguments before the call, and then their values after it. `code` is the returned code.
-- `before` and `needed` are the values of the argument `needed` before and after the call.
use Rattle.std.specs.Prelude.{ℕ, ℤ, ◌^◌, List, Result, map}
use Rattle.constriction_c.specs.Codes.{ReturnsCodeOf, answer_by_code}
use Rattle.constriction_c.specs.Words.{lowest}
use Rattle.constriction_c.specs.declared.chain.u32.ChainHeadsU32.{ChainHeadsU32}
use Rattle.constriction_c.specs.declared.range.u32.RangeDecoderU32.{RangeDecoderU32}
use Rattle.constriction_c.specs.declared.range.u32.RangeEncoderU32.{RangeEncoderU32}
use Rattle.constriction_calls.specs.AnsCalls.{AnsExports, AnsImports, AnsEncodesList, AnsDecodesList, coder_of}
use Rattle.constriction_calls.specs.ChainCalls.{ChainBuffers, ChainEncodesList, ChainDecodesList}
use Rattle.constriction_calls.specs.ChainWords.{ChainBegins, ChainEnds}
use Rattle.constriction_calls.specs.declared.chain.Form.{Form}
use Rattle.constriction_calls.specs.RangeCalls.{RangeBuffers, RangeEncodesList, RangeDecodesList, range_buffers}
use Rattle.constriction_calls.specs.StoreCalls.{StoreBuilds, StoreDecodesList}
use Rattle.constriction_calls.specs.SymbolBits.{EncodesAtBit, DecodesAtBit}
use Rattle.constriction_calls.specs.SymbolCalls.{Order, EncodesCodewords, SymbolCode, DecodesCodewords}
use Rattle.constriction_calls.specs.declared.chain.ChainHeads.{ChainHeads}
use Rattle.constriction_calls.specs.declared.range.parts.DecoderParts.{DecoderParts}
use Rattle.constriction_calls.specs.declared.range.parts.EncoderParts.{EncoderParts}
use Rattle.constriction_inputs.specs.Coded.{Coded}
use Rattle.constriction_inputs.specs.Intervals.{as_intervals}
use Rattle.constriction_inputs.specs.QuantizedCalls.{WritesIntervals}
use Rattle.constriction_inputs.specs.Weights.{narrow_by_weights}
use Rattle.constriction_inputs.specs.declared.refusal.Refusal.{Refusal}
use Rattle.constriction_lanes.specs.LaneCalls.{LanesDecodeList, LanesEncodeList, lanes_of}
use Rattle.constriction_stack.specs.Ans.{AnsState}

-- Intervals that begin at the numbers of the words `lefts`.
abbrev pub intervals_from_u32 : List ℕ → List ℕ → Coded
intervals_from_u32 lefts ps = as_intervals (map (lowest 32) lefts) ps

-- Symbols of `bits` bits under one table of weights, which are the numbers of the words `weights`.
abbrev pub narrow_from_u32 : ℕ → List ℕ → List ℕ → Coded
narrow_from_u32 bits weights symbols = narrow_by_weights (2 ^ bits) (map (lowest 32) weights) symbols

-- ---- the stack coder
-- The function encodes a caller's arguments.
abbrev pub AnsEncodesU32 : ℕ → ℕ → ℕ → Coded → ℕ → List ℕ → ℕ → ℕ → List ℕ → ℕ → Type 0
AnsEncodesU32 code before needed coded head words len new_head new_words new_len =
    ReturnsCodeOf code before needed (AnsEncodesList (lowest 32) (lowest 64) 32 64 24 coded (coder_of head words len) (coder_of new_head new_words new_len))

-- The function fills a list with decoded symbols. `words` stay as they are.
abbrev pub AnsDecodesU32 : ℕ → (List ℕ → Coded) → List ℕ → ℕ → ℕ → ℕ → ℕ → List ℕ → List ℕ → Type 0
AnsDecodesU32 code coded words head len new_head new_len symbols new_symbols =
    AnsDecodesList (lowest 32) (lowest 64) 32 64 24 coded (coder_of head words len) (coder_of new_head words new_len) symbols new_symbols (answer_by_code code 0)

-- The function imports the state `makes` of words that have the property `holds`.
abbrev pub AnsImportsU32 : ℕ → (List ℕ → AnsState) → (List ℕ → Type 0) → List ℕ → ℕ → ℕ → ℕ → ℕ → Type 0
AnsImportsU32 code makes holds words head len new_head new_len =
    AnsImports (lowest 32) (lowest 64) makes holds (coder_of head words len) (coder_of new_head words new_len) (answer_by_code code 0)

-- The function exports the words of a state that has the property `holds`, in the form `are`. `head` stays as it is.
abbrev pub AnsExportsU32 : ℕ → ℕ → ℕ → (AnsState → List ℕ → Type 0) → (AnsState → Type 0) → ℕ → List ℕ → ℕ → List ℕ → ℕ → Type 0
AnsExportsU32 code before needed are holds head words len new_words new_len =
    ReturnsCodeOf code before needed (AnsExports (lowest 32) (lowest 64) are holds (coder_of head words len) (coder_of head new_words new_len))

-- ---- many stack coders
-- The function encodes rows of a caller's arguments, of which there are `count`.
abbrev pub LanesEncodeU32 : ℕ → ℕ → ℕ → ℕ → Coded → List ℕ → List ℕ → List ℕ → List ℕ → List ℕ → List ℕ → Type 0
LanesEncodeU32 code before needed count coded heads words lens new_heads new_words new_lens =
    ReturnsCodeOf code before needed (LanesEncodeList (lowest 32) (lowest 64) 32 64 24 count coded (lanes_of heads words lens) (lanes_of new_heads new_words new_lens))

-- The function fills rows of a list with decoded symbols. `words` stay as they are.
abbrev pub LanesDecodeU32 : ℕ → (List ℕ → Coded) → List ℕ → List ℕ → List ℕ → List ℕ → List ℕ → List ℕ → List ℕ → Type 0
LanesDecodeU32 code coded words heads lens new_heads new_lens symbols new_symbols =
    LanesDecodeList (lowest 32) (lowest 64) 32 64 24 coded (lanes_of heads words lens) (lanes_of new_heads words new_lens) symbols new_symbols (answer_by_code code 0)

-- ---- the range coder
-- The encoder that a C caller's struct holds.
abbrev pub encoder_u32 : RangeEncoderU32 → EncoderParts ℕ ℕ
encoder_u32 e = record { lower = e.lower; range = e.range; held = e.held; first = e.first }

-- The decoder that a C caller's struct holds.
abbrev pub decoder_u32 : RangeDecoderU32 → DecoderParts ℕ
decoder_u32 d = record { lower = d.lower; range = d.range; point = d.point; pos = d.pos }

-- The function encodes a caller's arguments.
abbrev pub RangeEncodesU32 : ℕ → ℕ → ℕ → Coded → ℕ → RangeEncoderU32 → List ℕ → ℕ → RangeEncoderU32 → List ℕ → ℕ → Type 0
RangeEncodesU32 code before needed coded count encoder words len new_encoder new_words new_len =
    ReturnsCodeOf code before needed (RangeEncodesList (lowest 32) (lowest 64) 32 64 24 coded count (range_buffers (encoder_u32 encoder) words len) (range_buffers (encoder_u32 new_encoder) new_words new_len))

-- The function appends a seal as `seals` says. `encoder` stays as it is.
abbrev pub RangeEndsU32 : ℕ → ℕ → ℕ → (RangeBuffers ℕ ℕ → RangeBuffers ℕ ℕ → Result (Unit {0}) Refusal → Type 0) → RangeEncoderU32 → List ℕ → ℕ → List ℕ → ℕ → Type 0
RangeEndsU32 code before needed seals encoder words len new_words new_len =
    ReturnsCodeOf code before needed (seals (range_buffers (encoder_u32 encoder) words len) (range_buffers (encoder_u32 encoder) new_words new_len))

-- The function fills a list with decoded symbols.
abbrev pub RangeDecodesU32 : ℕ → (List ℕ → Coded) → List ℕ → RangeDecoderU32 → RangeDecoderU32 → List ℕ → List ℕ → Type 0
RangeDecodesU32 code coded words decoder new_decoder symbols new_symbols =
    RangeDecodesList (lowest 64) 32 64 24 coded (map (lowest 32) words) (decoder_u32 decoder) (decoder_u32 new_decoder) symbols new_symbols (answer_by_code code 0)

-- ---- the chain coder
-- The heads that a C caller's struct holds.
abbrev pub heads_u32 : ChainHeadsU32 → ChainHeads ℕ ℕ
heads_u32 heads = record { remainders = heads.remainders; compressed = heads.compressed }

-- A C caller's chain coder: the heads, and two buffers with their numbers of words in use.
abbrev pub chain_u32 : ChainHeadsU32 → List ℕ → ℕ → List ℕ → ℕ → ChainBuffers ℕ ℕ
chain_u32 heads compressed count remainders rest = record {
  heads = record { remainders = heads.remainders; compressed = heads.compressed };
  compressed = compressed;
  compressed_len = count;
  remainders = remainders;
  remainders_len = rest;
}

-- The function encodes a caller's arguments.
abbrev pub ChainEncodesU32 : ℕ → ℕ → ℕ → Coded → ChainBuffers ℕ ℕ → ChainBuffers ℕ ℕ → Type 0
ChainEncodesU32 code before needed coded old new = ReturnsCodeOf code before needed (ChainEncodesList (lowest 32) (lowest 64) 32 64 24 coded old new)

-- The function fills a list with decoded symbols.
abbrev pub ChainDecodesU32 : ℕ → ℕ → ℕ → (List ℕ → Coded) → ChainBuffers ℕ ℕ → ChainBuffers ℕ ℕ → List ℕ → List ℕ → Type 0
ChainDecodesU32 code before needed coded old new symbols new_symbols =
    ReturnsCodeOf code before needed (ChainDecodesList (lowest 32) (lowest 64) 32 64 24 coded old new symbols new_symbols)

-- The function imports a coder from words in this form.
abbrev pub ChainBeginsU32 : ℕ → Form → List ℕ → ChainHeadsU32 → ℕ → ChainHeadsU32 → ℕ → Type 0
ChainBeginsU32 code form words heads len new_heads new_len =
    ChainBegins (lowest 32) (lowest 64) 32 64 24 form words (record { heads = heads_u32 heads; len = len }) (record { heads = heads_u32 new_heads; len = new_len }) (answer_by_code code 0)

-- The function appends the words of the heads in this form. `heads` stay as they are.
abbrev pub ChainEndsU32 : ℕ → ℕ → ℕ → Form → ChainHeadsU32 → List ℕ → ℕ → List ℕ → ℕ → Type 0
ChainEndsU32 code before needed form heads words len new_words new_len =
    ReturnsCodeOf code before needed (ChainEnds (lowest 32) (lowest 64) 32 64 24 form (heads_u32 heads) (record { words = words; len = len }) (record { words = new_words; len = new_len }))

-- ---- codebooks
-- The function writes the symbols' codewords at the beginning of a buffer. `symbol` gives the number of a symbol.
abbrev pub EncodesCodewordsU32 : ℕ → ℕ → ℕ → (ℕ → ℕ) → Order → SymbolCode → List ℕ → List ℕ → ℕ → List ℕ → ℕ → Type 0
EncodesCodewordsU32 code before needed symbol order book symbols words len new_words new_len =
    ReturnsCodeOf code before needed (EncodesCodewords symbol (lowest 32) 32 order book symbols (record { words = words; len = len }) (record { words = new_words; len = new_len }))

-- The function fills a list with the first symbols that the words encode.
abbrev pub DecodesCodewordsU32 : ℕ → (ℕ → ℕ) → Order → SymbolCode → List ℕ → List ℕ → List ℕ → Type 0
DecodesCodewordsU32 code symbol order book words symbols new_symbols =
    DecodesCodewords symbol 32 order book (map (lowest 32) words) symbols new_symbols (answer_by_code code 0)

-- The function writes the symbols' codewords from a bit of the buffer on.
abbrev pub EncodesAtBitU32 : ℕ → ℕ → ℕ → (ℕ → ℕ) → SymbolCode → List ℕ → List ℕ → ℕ → List ℕ → ℕ → Type 0
EncodesAtBitU32 code before needed symbol book symbols words bit new_words new_bit =
    ReturnsCodeOf code before needed (EncodesAtBit symbol (lowest 32) 32 book symbols (record { words = words; bit = bit }) (record { words = new_words; bit = new_bit }))

-- The function fills a list with the symbols decoded from a bit of the words on.
abbrev pub DecodesAtBitU32 : ℕ → (ℕ → ℕ) → SymbolCode → List ℕ → ℕ → List ℕ → ℕ → List ℕ → Type 0
DecodesAtBitU32 code symbol book words bit symbols new_bit new_symbols =
    DecodesAtBit symbol 32 book (map (lowest 32) words) (record { symbols = symbols; bit = bit }) (record { symbols = new_symbols; bit = new_bit }) (answer_by_code code 0)

-- ---- stores
-- The function builds a store of chunks of the given lengths, and its index.
abbrev pub StoreBuildsU32 : ℕ → ℕ → ℕ → List ℕ → List ℕ → List ℕ → List ℕ → ℕ → List ℕ → List ℕ → List ℕ → List ℕ → ℕ → List ℕ → List ℕ → List ℕ → Type 0
StoreBuildsU32 code before needed weights symbols lengths words len positions lowers ranges new_words new_len new_positions new_lowers new_ranges =
    ReturnsCodeOf code before needed (StoreBuilds (lowest 32) (lowest 64) 32 64 24 (map (lowest 32) weights) symbols lengths
    (record { positions = positions; lowers = lowers; ranges = ranges; words = words; len = len })
    (record { positions = new_positions; lowers = new_lowers; ranges = new_ranges; words = new_words; len = new_len }))

-- The function fills a list with the symbols of the chunk at an entry of the index.
abbrev pub StoreDecodesU32 : ℕ → List ℕ → List ℕ → ℕ → ℕ → ℕ → List ℕ → List ℕ → Type 0
StoreDecodesU32 code weights words pos lower range symbols new_symbols =
    StoreDecodesList (lowest 64) 32 64 24 (map (lowest 32) weights) (map (lowest 32) words) pos lower range symbols new_symbols (answer_by_code code 0)

-- ---- models
-- The function writes the interval of each symbol under the symbol's own location and scale.
abbrev pub WritesIntervalsU32 : ℕ → ℕ → ℤ → ℤ → List ℤ → List ℕ → List ℕ → List ℕ → List ℕ → List ℕ → List ℕ → Type 0
WritesIntervalsU32 code family min max locations scales symbols lefts ps new_lefts new_ps =
    WritesIntervals (lowest 32) 24 (record { family = family; min = min; max = max; locations = locations; scales = scales }) symbols
    (record { lefts = lefts; ps = ps }) (record { lefts = new_lefts; ps = new_ps }) (answer_by_code code 0)
