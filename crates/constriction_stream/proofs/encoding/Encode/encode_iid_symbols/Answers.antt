use Rattle.std.proofs.Common.{arith, refl}
use Rattle.constriction_stream.specs.Symbols.{EncodesSymbol}
use Rattle.constriction_stream.proofs.Lists.{StepsAll-more}
use Rattle.constriction_stream.proofs.encoding.Encode.encode_iid_symbols.Goals as goal

pub loop-symbol-preserved : goal.loop-symbol-preserved
loop-symbol-preserved g c =
    let on = c.in-Some.ensures.goes.on c.loop-symbol.invariant.1 in (
      on.0,
      on.1,
      StepsAll-more (λ old symbol result new. EncodesSymbol g.Self.Encode.encodes g.Self.Encode.is_impossible_symbol g.row.PRECISION (g.M.EntropyModel.table c.args.model) (g.S.Lent.lent symbol) old result new)
          c.args.self.now c.loop-symbol.yielded c.loop-symbol.self c.in-Some.symbol c.encode_symbol.new.self
          c.loop-symbol.invariant.2 (rw c.lend.ensures at c.in-Ok.ensures.step),
      omega (arith, on.2, c.encode_symbol.ensures.fewer_left, c.loop-symbol.invariant.3),
      omega (arith, on.2, c.encode_symbol.ensures.fewer_left, c.loop-symbol.invariant.4),
    )

pub loop-symbol-init : goal.loop-symbol-init
loop-symbol-init g c =
    let given = c.requires c.into_iter-symbol-iterator.result c.into_iter-symbol-iterator.ensures.into_iter_gives in
    (given.0, given.1, refl, given.2, omega arith)

pub returns : goal.returns
returns g c = record {
  steps = (
    c.into_iter-symbol-iterator.result,
    c.into_iter-symbol-iterator.ensures.into_iter_gives,
    c.loop-symbol.yielded,
    c.loop-symbol.self,
    c.loop-symbol.invariant.2,
    (refl, (c.next.new.self, (c.loop-symbol.symbol-iterator, c.loop-symbol.yielded_by, c.in-None.ensures.steps))),
  );
  fewer_left = λ count most. omega (arith, most c.into_iter-symbol-iterator.result c.into_iter-symbol-iterator.ensures.into_iter_gives, c.loop-symbol.invariant.4);
}

pub returns-in-Err : goal.returns-in-Err
returns-in-Err g c = record {
  steps = (
    c.into_iter-symbol-iterator.result,
    c.into_iter-symbol-iterator.ensures.into_iter_gives,
    c.loop-symbol.yielded,
    c.loop-symbol.self,
    c.loop-symbol.invariant.2,
    (c.in-Some.symbol, c.next.new.self, (c.loop-symbol.symbol-iterator, c.loop-symbol.yielded_by, c.in-Some.ensures.steps), rw c.lend.ensures at c.in-Err.ensures.step),
  );
  fewer_left = λ count most. omega (arith, most c.into_iter-symbol-iterator.result c.into_iter-symbol-iterator.ensures.into_iter_gives, (c.in-Some.ensures.goes.on c.loop-symbol.invariant.1).2, c.encode_symbol.ensures.fewer_left, c.loop-symbol.invariant.4);
}
