use Rattle.std.proofs.Common.{map, rules}
use Rattle.constriction_calls.specs.SymbolCalls.{AsQueue}
use Rattle.constriction_inputs.proofs.Asking.{asked_ok}
use Rattle.constriction_calls.proofs.SymbolReads.{filled}
use Rattle.constriction_calls.proofs.symbol.decoding.decode_queue.Goals as goal

pub returns : goal.returns
returns g c =
    let made = c.in_ok-codebook in
    let words = map g.Word.Natural.number c.args.words.now in
    let read = c.read_symbols.ensures in
    record {
      call = filled g.C.Codes.number g.Word.Natural.BITS AsQueue (g.C.Codes.book c.args.codes.now) words c.args.symbols.now (asked_ok made.ensures.asks).0
          (g.C.Decoder.Codebook.codeword made.codebook) made.ensures.codewords (g.C.Decoder.DecoderCodebook.reads_on made.codebook) made.ensures.cut (g.C.Decoder.DecoderCodebook.is_invalid made.codebook) made.ensures.wrong
          c.from_compressed-decoder.result.bits (search rules) c.read_symbols.new.stream.bits c.read_symbols.new.symbols c.read_symbols.result read.count read.ok read.err read.kept;
    }
