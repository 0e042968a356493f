-- Written by tools/sizes from U32.antt.
-- Contracts of the C functions with 16-bit words, 32-bit states and a precision of 12 bits. Each contract takes the
-- values of a function's arguments before the call, and then their values after it. `code` is the returned code.
-- `before` and `needed` are the values of the argument `needed` before and after the call.
use Rattle.std.specs.Prelude.{ℕ, ℤ, ◌^◌, List, Result, map}
use Rattle.constriction_c.specs.Codes.{ReturnsCodeOf, answer_by_code}
use Rattle.constriction_c.specs.Words.{lowest}
use Rattle.constriction_c.specs.declared.chain.u16.ChainHeadsU16.{ChainHeadsU16}
use Rattle.constriction_c.specs.declared.range.u16.RangeDecoderU16.{RangeDecoderU16}
use Rattle.constriction_c.specs.declared.range.u16.RangeEncoderU16.{RangeEncoderU16}
use Rattle.constriction_calls.specs.AnsCalls.{AnsExports, AnsImports, AnsEncodesList, AnsDecodesList, coder_of}
use Rattle.constriction_calls.specs.ChainCalls.{ChainBuffers, ChainEncodesList, ChainDecodesList}
use Rattle.constriction_calls.specs.ChainWords.{ChainBegins, ChainEnds}
use Rattle.constriction_calls.specs.declared.chain.Form.{Form}
use Rattle.constriction_calls.specs.RangeCalls.{RangeBuffers, RangeEncodesList, RangeDecodesList, range_buffers}
use Rattle.constriction_calls.specs.StoreCalls.{StoreBuilds, StoreDecodesList}
use Rattle.constriction_calls.specs.SymbolBits.{EncodesAtBit, DecodesAtBit}
use Rattle.constriction_calls.specs.SymbolCalls.{Order, EncodesCodewords, SymbolCode, DecodesCodewords}
use Rattle.constriction_calls.specs.declared.chain.ChainHeads.{ChainHeads}
use Rattle.constriction_calls.specs.declared.range.parts.DecoderParts.{DecoderParts}
use Rattle.constriction_calls.specs.declared.range.parts.EncoderParts.{EncoderParts}
use Rattle.constriction_inputs.specs.Coded.{Coded}
use Rattle.constriction_inputs.specs.Intervals.{as_intervals}
use Rattle.constriction_inputs.specs.QuantizedCalls.{WritesIntervals}
use Rattle.constriction_inputs.specs.Weights.{narrow_by_weights}
use Rattle.constriction_inputs.specs.declared.refusal.Refusal.{Refusal}
use Rattle.constriction_lanes.specs.LaneCalls.{LanesDecodeList, LanesEncodeList, lanes_of}
use Rattle.constriction_stack.specs.Ans.{AnsState}

-- Intervals that begin at the numbers of the words `lefts`.
abbrev pub intervals_from_u16 : List ℕ → List ℕ → Coded
intervals_from_u16 lefts ps = as_intervals (map (lowest 16) lefts) ps

-- Symbols of `bits` bits under one table of weights, which are the numbers of the words `weights`.
abbrev pub narrow_from_u16 : ℕ → List ℕ → List ℕ → Coded
narrow_from_u16 bits weights symbols = narrow_by_weights (2 ^ bits) (map (lowest 16) weights) symbols

-- ---- the stack coder
-- The function encodes a caller's arguments.
abbrev pub AnsEncodesU16 : ℕ → ℕ → ℕ → Coded → ℕ → List ℕ → ℕ → ℕ → List ℕ → ℕ → Type 0
AnsEncodesU16 code before needed coded head words len new_head new_words new_len =
    ReturnsCodeOf code before needed (AnsEncodesList (lowest 16) (lowest 32) 16 32 12 coded (coder_of head words len) (coder_of new_head new_words new_len))

-- The function fills a list with decoded symbols. `words` stay as they are.
abbrev pub AnsDecodesU16 : ℕ → (List ℕ → Coded) → List ℕ → ℕ → ℕ → ℕ → ℕ → List ℕ → List ℕ → Type 0
AnsDecodesU16 code coded words head len new_head new_len symbols new_symbols =
    AnsDecodesList (lowest 16) (lowest 32) 16 32 12 coded (coder_of head words len) (coder_of new_head words new_len) symbols new_symbols (answer_by_code code 0)

-- The function imports the state `makes` of words that have the property `holds`.
abbrev pub AnsImportsU16 : ℕ → (List ℕ → AnsState) → (List ℕ → Type 0) → List ℕ → ℕ → ℕ → ℕ → ℕ → Type 0
AnsImportsU16 code makes holds words head len new_head new_len =
    AnsImports (lowest 16) (lowest 32) makes holds (coder_of head words len) (coder_of new_head words new_len) (answer_by_code code 0)

-- The function exports the words of a state that has the property `holds`, in the form `are`. `head` stays as it is.
abbrev pub AnsExportsU16 : ℕ → ℕ → ℕ → (AnsState → List ℕ → Type 0) → (AnsState → Type 0) → ℕ → List ℕ → ℕ → List ℕ → ℕ → Type 0
AnsExportsU16 code before needed are holds head words len new_words new_len =
    ReturnsCodeOf code before needed (AnsExports (lowest 16) (lowest 32) are holds (coder_of head words len) (coder_of head new_words new_len))

-- ---- many stack coders
-- The function encodes rows of a caller's arguments, of which there are `count`.
abbrev pub LanesEncodeU16 : ℕ → ℕ → ℕ → ℕ → Coded → List ℕ → List ℕ → List ℕ → List ℕ → List ℕ → List ℕ → Type 0
LanesEncodeU16 code before needed count coded heads words lens new_heads new_words new_lens =
    ReturnsCodeOf code before needed (LanesEncodeList (lowest 16) (lowest 32) 16 32 12 count coded (lanes_of heads words lens) (lanes_of new_heads new_words new_lens))

-- The function fills rows of a list with decoded symbols. `words` stay as they are.
abbrev pub LanesDecodeU16 : ℕ → (List ℕ → Coded) → List ℕ → List ℕ → List ℕ → List ℕ → List ℕ → List ℕ → List ℕ → Type 0
LanesDecodeU16 code coded words heads lens new_heads new_lens symbols new_symbols =
    LanesDecodeList (lowest 16) (lowest 32) 16 32 12 coded (lanes_of heads words lens) (lanes_of new_heads words new_lens) symbols new_symbols (answer_by_code code 0)

-- ---- the range coder
-- The encoder that a C caller's struct holds.
abbrev pub encoder_u16 : RangeEncoderU16 → EncoderParts ℕ ℕ
encoder_u16 e = record { lower = e.lower; range = e.range; held = e.held; first = e.first }

-- The decoder that a C caller's struct holds.
abbrev pub decoder_u16 : RangeDecoderU16 → DecoderParts ℕ
decoder_u16 d = record { lower = d.lower; range = d.range; point = d.point; pos = d.pos }

-- The function encodes a caller's arguments.
abbrev pub RangeEncodesU16 : ℕ → ℕ → ℕ → Coded → ℕ → RangeEncoderU16 → List ℕ → ℕ → RangeEncoderU16 → List ℕ → ℕ → Type 0
RangeEncodesU16 code before needed coded count encoder words len new_encoder new_words new_len =
    ReturnsCodeOf code before needed (RangeEncodesList (lowest 16) (lowest 32) 16 32 12 coded count (range_buffers (encoder_u16 encoder) words len) (range_buffers (encoder_u16 new_encoder) new_words new_len))

-- The function appends a seal as `seals` says. `encoder` stays as it is.
abbrev pub RangeEndsU16 : ℕ → ℕ → ℕ → (RangeBuffers ℕ ℕ → RangeBuffers ℕ ℕ → Result (Unit {0}) Refusal → Type 0) → RangeEncoderU16 → List ℕ → ℕ → List ℕ → ℕ → Type 0
RangeEndsU16 code before needed seals encoder words len new_words new_len =
    ReturnsCodeOf code before needed (seals (range_buffers (encoder_u16 encoder) words len) (range_buffers (encoder_u16 encoder) new_words new_len))

-- The function fills a list with decoded symbols.
abbrev pub RangeDecodesU16 : ℕ → (List ℕ → Coded) → List ℕ → RangeDecoderU16 → RangeDecoderU16 → List ℕ → List ℕ → Type 0
RangeDecodesU16 code coded words decoder new_decoder symbols new_symbols =
    RangeDecodesList (lowest 32) 16 32 12 coded (map (lowest 16) words) (decoder_u16 decoder) (decoder_u16 new_decoder) symbols new_symbols (answer_by_code code 0)

-- ---- the chain coder
-- The heads that a C caller's struct holds.
abbrev pub heads_u16 : ChainHeadsU16 → ChainHeads ℕ ℕ
heads_u16 heads = record { remainders = heads.remainders; compressed = heads.compressed }

-- A C caller's chain coder: the heads, and two buffers with their numbers of words in use.
abbrev pub chain_u16 : ChainHeadsU16 → List ℕ → ℕ → List ℕ → ℕ → ChainBuffers ℕ ℕ
chain_u16 heads compressed count remainders rest = record {
  heads = record { remainders = heads.remainders; compressed = heads.compressed };
  compressed = compressed;
  compressed_len = count;
  remainders = remainders;
  remainders_len = rest;
}

-- The function encodes a caller's arguments.
abbrev pub ChainEncodesU16 : ℕ → ℕ → ℕ → Coded → ChainBuffers ℕ ℕ → ChainBuffers ℕ ℕ → Type 0
ChainEncodesU16 code before needed coded old new = ReturnsCodeOf code before needed (ChainEncodesList (lowest 16) (lowest 32) 16 32 12 coded old new)

-- The function fills a list with decoded symbols.
abbrev pub ChainDecodesU16 : ℕ → ℕ → ℕ → (List ℕ → Coded) → ChainBuffers ℕ ℕ → ChainBuffers ℕ ℕ → List ℕ → List ℕ → Type 0
ChainDecodesU16 code before needed coded old new symbols new_symbols =
    ReturnsCodeOf code before needed (ChainDecodesList (lowest 16) (lowest 32) 16 32 12 coded old new symbols new_symbols)

-- The function imports a coder from words in this form.
abbrev pub ChainBeginsU16 : ℕ → Form → List ℕ → ChainHeadsU16 → ℕ → ChainHeadsU16 → ℕ → Type 0
ChainBeginsU16 code form words heads len new_heads new_len =
    ChainBegins (lowest 16) (lowest 32) 16 32 12 form words (record { heads = heads_u16 heads; len = len }) (record { heads = heads_u16 new_heads; len = new_len }) (answer_by_code code 0)

-- The function appends the words of the heads in this form. `heads` stay as they are.
abbrev pub ChainEndsU16 : ℕ → ℕ → ℕ → Form → ChainHeadsU16 → List ℕ → ℕ → List ℕ → ℕ → Type 0
ChainEndsU16 code before needed form heads words len new_words new_len =
    ReturnsCodeOf code before needed (ChainEnds (lowest 16) (lowest 32) 16 32 12 form (heads_u16 heads) (record { words = words; len = len }) (record { words = new_words; len = new_len }))

-- ---- codebooks
-- The function writes the symbols' codewords at the beginning of a buffer. `symbol` gives the number of a symbol.
abbrev pub EncodesCodewordsU16 : ℕ → ℕ → ℕ → (ℕ → ℕ) → Order → SymbolCode → List ℕ → List ℕ → ℕ → List ℕ → ℕ → Type 0
EncodesCodewordsU16 code before needed symbol order book symbols words len new_words new_len =
    ReturnsCodeOf code before needed (EncodesCodewords symbol (lowest 16) 16 order book symbols (record { words = words; len = len }) (record { words = new_words; len = new_len }))

-- The function fills a list with the first symbols that the words encode.
abbrev pub DecodesCodewordsU16 : ℕ → (ℕ → ℕ) → Order → SymbolCode → List ℕ → List ℕ → List ℕ → Type 0
DecodesCodewordsU16 code symbol order book words symbols new_symbols =
    DecodesCodewords symbol 16 order book (map (lowest 16) words) symbols new_symbols (answer_by_code code 0)

-- The function writes the symbols' codewords from a bit of the buffer on.
abbrev pub EncodesAtBitU16 : ℕ → ℕ → ℕ → (ℕ → ℕ) → SymbolCode → List ℕ → List ℕ → ℕ → List ℕ → ℕ → Type 0
EncodesAtBitU16 code before needed symbol book symbols words bit new_words new_bit =
    ReturnsCodeOf code before needed (EncodesAtBit symbol (lowest 16) 16 book symbols (record { words = words; bit = bit }) (record { words = new_words; bit = new_bit }))

-- The function fills a list with the symbols decoded from a bit of the words on.
abbrev pub DecodesAtBitU16 : ℕ → (ℕ → ℕ) → SymbolCode → List ℕ → ℕ → List ℕ → ℕ → List ℕ → Type 0
DecodesAtBitU16 code symbol book words bit symbols new_bit new_symbols =
    DecodesAtBit symbol 16 book (map (lowest 16) words) (record { symbols = symbols; bit = bit }) (record { symbols = new_symbols; bit = new_bit }) (answer_by_code code 0)

-- ---- stores
-- The function builds a store of chunks of the given lengths, and its index.
abbrev pub StoreBuildsU16 : ℕ → ℕ → ℕ → List ℕ → List ℕ → List ℕ → List ℕ → ℕ → List ℕ → List ℕ → List ℕ → List ℕ → ℕ → List ℕ → List ℕ → List ℕ → Type 0
StoreBuildsU16 code before needed weights symbols lengths words len positions lowers ranges new_words new_len new_positions new_lowers new_ranges =
    ReturnsCodeOf code before needed (StoreBuilds (lowest 16) (lowest 32) 16 32 12 (map (lowest 16) weights) symbols lengths
    (record { positions = positions; lowers = lowers; ranges = ranges; words = words; len = len })
    (record { positions = new_positions; lowers = new_lowers; ranges = new_ranges; words = new_words; len = new_len }))

-- The function fills a list with the symbols of the chunk at an entry of the index.
abbrev pub StoreDecodesU16 : ℕ → List ℕ → List ℕ → ℕ → ℕ → ℕ → List ℕ → List ℕ → Type 0
StoreDecodesU16 code weights words pos lower range symbols new_symbols =
    StoreDecodesList (lowest 32) 16 32 12 (map (lowest 16) weights) (map (lowest 16) words) pos lower range symbols new_symbols (answer_by_code code 0)

-- ---- models
-- The function writes the interval of each symbol under the symbol's own location and scale.
abbrev pub WritesIntervalsU16 : ℕ → ℕ → ℤ → ℤ → List ℤ → List ℕ → List ℕ → List ℕ → List ℕ → List ℕ → List ℕ → Type 0
WritesIntervalsU16 code family min max locations scales symbols lefts ps new_lefts new_ps =
    WritesIntervals (lowest 16) 12 (record { family = family; min = min; max = max; locations = locations; scales = scales }) symbols
    (record { lefts = lefts; ps = ps }) (record { lefts = new_lefts; ps = new_ps }) (answer_by_code code 0)
