use Rattle.std.specs.Iterator.Adapters.{rev_source}
use Rattle.std.proofs.Common.{refl}
use Rattle.constriction_stream.proofs.Lists.{StepsAll-more, Yields-back}
use Rattle.constriction_base.specs.Backends.{IsWrite}
use Rattle.constriction_symbol.specs.Reversed.{StacksPair}
use Rattle.constriction_symbol.proofs.writing.StackCoder+Word+B.encode_symbols_reverse.Goals as goal

pub returns-in-Err : goal.returns-in-Err
returns-in-Err g c = (
  rev_source c.into_iter-symbol-iterator.result,
  rw (c.into_iter-symbol-iterator.ensures.into_iter_gives, c.rev-symbol-items.ensures.source) c.into_iter.ensures.into_iter_gives,
  c.loop-symbol.yielded,
  c.loop-symbol.self,
  c.loop-symbol.invariant.2,
  ((c.in-Some.symbol, c.in-Some.codebook), rev_source c.next.new.self, (rev_source c.loop-symbol.symbol-iterator, Yields-back g.I.IntoIter.DoubleEndedIterator.next_back_gives _ _ _ c.loop-symbol.yielded_by, c.in-Some.ensures.steps), rw c.lend.ensures at c.in-Err.ensures),
)

pub returns : goal.returns
returns g c = (
  rev_source c.into_iter-symbol-iterator.result,
  rw (c.into_iter-symbol-iterator.ensures.into_iter_gives, c.rev-symbol-items.ensures.source) c.into_iter.ensures.into_iter_gives,
  c.loop-symbol.yielded,
  c.loop-symbol.self,
  c.loop-symbol.invariant.2,
  (refl, (rev_source c.next.new.self, (rev_source c.loop-symbol.symbol-iterator, Yields-back g.I.IntoIter.DoubleEndedIterator.next_back_gives _ _ _ c.loop-symbol.yielded_by, c.in-None.ensures.steps))),
)

pub loop-symbol-preserved : goal.loop-symbol-preserved
loop-symbol-preserved g c =
    let on = c.in-Some.ensures.goes.on c.loop-symbol.invariant.1 in (
      on.0,
      on.1,
      StepsAll-more (StacksPair g.Word.Natural.BITS g.Word.Natural.number (IsWrite g.B.Holds.words g.B.WriteWords.room g.B.WriteWords.writes g.B.WriteWords.write_fails) g.C.EncoderCodebook.suffix_wants g.B.WriteError.From.from_gives g.C.Codebook.codeword g.L.Lent.lent) c.args.self.now c.loop-symbol.yielded c.loop-symbol.self (c.in-Some.symbol, c.in-Some.codebook) c.encode_symbol.new.self c.loop-symbol.invariant.2 (rw c.lend.ensures at c.in-Ok.ensures),
    )

pub loop-symbol-init : goal.loop-symbol-init
loop-symbol-init g c =
    let given = c.requires (rev_source c.into_iter-symbol-iterator.result) (rw (c.into_iter-symbol-iterator.ensures.into_iter_gives, c.rev-symbol-items.ensures.source) c.into_iter.ensures.into_iter_gives) in
    (given.0, given.1, refl)
