use Rattle.std.proofs.Common.{refl}
use Rattle.constriction_stream.proofs.Lists.{StepsAll-more}
use Rattle.constriction_symbol.specs.Codewords.{LacksMemoryFor, WritesSymbol}
use Rattle.constriction_symbol.proofs.writing.WriteBitStream.encode_iid_symbols.Goals as goal

pub returns-in-Err : goal.returns-in-Err
returns-in-Err g c = (
  c.into_iter-symbol-iterator.result,
  c.into_iter-symbol-iterator.ensures.into_iter_gives,
  c.loop-symbol.yielded,
  c.loop-symbol.self,
  c.loop-symbol.invariant.2,
  (c.in-Some.symbol, c.next.new.self, (c.loop-symbol.symbol-iterator, c.loop-symbol.yielded_by, c.in-Some.ensures.steps), rw c.lend.ensures at c.in-Err.ensures),
)

pub returns : goal.returns
returns g c = (
  c.into_iter-symbol-iterator.result,
  c.into_iter-symbol-iterator.ensures.into_iter_gives,
  c.loop-symbol.yielded,
  c.loop-symbol.self,
  c.loop-symbol.invariant.2,
  (refl, (c.next.new.self, (c.loop-symbol.symbol-iterator, c.loop-symbol.yielded_by, c.in-None.ensures.steps))),
)

pub loop-symbol-preserved : goal.loop-symbol-preserved
loop-symbol-preserved g c =
    let on = c.in-Some.ensures.goes.on c.loop-symbol.invariant.1 in (
      on.0,
      on.1,
      StepsAll-more (WritesSymbol g.Self.WriteBitStream.bits g.Self.WriteBitStream.puts (LacksMemoryFor g.S.BitOrder.chosen g.C.EncoderCodebook.prefix_wants g.C.EncoderCodebook.suffix_wants g.Self.WriteError.From.from_gives c.args.codebook.now) (g.C.Codebook.codeword c.args.codebook.now) g.S.BitOrder.form g.L.Lent.lent) c.args.self.now c.loop-symbol.yielded c.loop-symbol.self c.in-Some.symbol c.encode_symbol.new.self c.loop-symbol.invariant.2 (rw c.lend.ensures at c.in-Ok.ensures),
    )
