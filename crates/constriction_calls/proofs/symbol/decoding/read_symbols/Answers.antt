use Rattle.std.proofs.Common.{sym, subst, arith}
use Rattle.constriction_calls.specs.SymbolCalls.{BeginWithCodewords}
use Rattle.constriction_calls.proofs.SymbolLists.{read_none, read_one}
use Rattle.constriction_calls.proofs.symbol.decoding.read_symbols.Goals as goal

pub returns-in-Err-clause-err : goal.returns-in-Err-clause-err
returns-in-Err-clause-err g c =
    let book = c.args.codebook.now in
    let l = c.loop-done in
    read_none g.R.ReadBitStream.gives g.R.ReadBitStream.unread (g.C.Codebook.codeword book) (g.C.DecoderCodebook.reads_on book) (g.met.R.ReadBitStream.list_law c.requires)
    l.read.items _ l.stream c.decode_symbol.new.self l.invariant.so_far (g.C.DecoderCodebook.is_invalid book) _ (omega (arith, l.invariant.counted, c.loop-done-test.true)) c.in-Err.error c.as_refusal.result c.in-Err.ensures c.as_refusal.ensures

pub loop-done-preserved : goal.loop-done-preserved
loop-done-preserved g c =
    let book = c.args.codebook.now in
    let l = c.loop-done in
    let one = read_one g.R.ReadBitStream.gives g.R.ReadBitStream.unread (g.C.Codebook.codeword book) (g.C.DecoderCodebook.reads_on book) (g.met.R.ReadBitStream.list_law c.requires)
    l.read.items _ l.stream c.decode_symbol.new.self l.invariant.so_far (g.C.DecoderCodebook.is_invalid book) c.in-Ok-decode_symbol.symbol c.in-Ok-decode_symbol.ensures in
    record {
      counted = omega (arith, c.push_reserved.ensures.len, l.invariant.counted);
      capacity = omega (arith, c.push_reserved.ensures.capacity, l.invariant.capacity);
      so_far = subst (λ xs. BeginWithCodewords (g.C.Codebook.codeword book) xs (g.R.ReadBitStream.unread c.args.stream.now) (g.R.ReadBitStream.unread c.decode_symbol.new.self)) (sym c.push_reserved.ensures.items) one;
    }
