use Rattle.std.proofs.Common.{arith, refl, Ok, Err}
use Rattle.constriction_stream.specs.Symbols.{EncodesPair}
use Rattle.constriction_stream.specs.Lists.{TriesItem}
use Rattle.constriction_stream.proofs.Lists.{StepsAll-more}
use Rattle.constriction_stream.proofs.encoding.Encode.try_encode_symbols.Goals as goal

pub returns-in-Err : goal.returns-in-Err
returns-in-Err g c = record {
  steps = (
    c.into_iter-symbol_and_model-iterator.result,
    c.into_iter-symbol_and_model-iterator.ensures.into_iter_gives,
    c.loop-symbol_and_model.yielded,
    c.loop-symbol_and_model.self,
    c.loop-symbol_and_model.invariant.2,
    (c.in-Some.symbol_and_model, c.next.new.self, (c.loop-symbol_and_model.symbol_and_model-iterator, c.loop-symbol_and_model.yielded_by, c.in-Some.ensures.steps), rw c.in-Err.is (refl, refl)),
  );
  fewer_left = λ count most. omega (arith, most c.into_iter-symbol_and_model-iterator.result c.into_iter-symbol_and_model-iterator.ensures.into_iter_gives, c.loop-symbol_and_model.invariant.4);
}

pub returns-in-Err-encode_symbol : goal.returns-in-Err-encode_symbol
returns-in-Err-encode_symbol g c = record {
  steps = (
    c.into_iter-symbol_and_model-iterator.result,
    c.into_iter-symbol_and_model-iterator.ensures.into_iter_gives,
    c.loop-symbol_and_model.yielded,
    c.loop-symbol_and_model.self,
    c.loop-symbol_and_model.invariant.2,
    (c.in-Some.symbol_and_model, c.next.new.self, (c.loop-symbol_and_model.symbol_and_model-iterator, c.loop-symbol_and_model.yielded_by, c.in-Some.ensures.steps), rw c.in-Ok.is (Err c.in-Err-encode_symbol.error, rw c.lend.ensures at c.in-Err-encode_symbol.ensures.step, refl)),
  );
  fewer_left = λ count most. omega (arith, most c.into_iter-symbol_and_model-iterator.result c.into_iter-symbol_and_model-iterator.ensures.into_iter_gives, (c.in-Some.ensures.goes.on c.loop-symbol_and_model.invariant.1).2, c.encode_symbol.ensures.fewer_left, c.loop-symbol_and_model.invariant.4);
}

pub loop-symbol_and_model-preserved : goal.loop-symbol_and_model-preserved
loop-symbol_and_model-preserved g c =
    let on = c.in-Some.ensures.goes.on c.loop-symbol_and_model.invariant.1 in (
      on.0,
      on.1,
      StepsAll-more (TriesItem (EncodesPair g.Self.Encode.encodes g.Self.Encode.is_impossible_symbol g.row.PRECISION g.M.EntropyModel.table g.S.Lent.lent))
          c.args.self.now c.loop-symbol_and_model.yielded c.loop-symbol_and_model.self c.in-Some.symbol_and_model c.encode_symbol.new.self
          c.loop-symbol_and_model.invariant.2 (rw c.in-Ok.is (Ok tt, rw c.lend.ensures at c.in-Ok-encode_symbol.ensures.step, refl)),
      omega (arith, on.2, c.encode_symbol.ensures.fewer_left, c.loop-symbol_and_model.invariant.3),
      omega (arith, on.2, c.encode_symbol.ensures.fewer_left, c.loop-symbol_and_model.invariant.4),
    )

pub loop-symbol_and_model-init : goal.loop-symbol_and_model-init
loop-symbol_and_model-init g c =
    let given = c.requires c.into_iter-symbol_and_model-iterator.result c.into_iter-symbol_and_model-iterator.ensures.into_iter_gives in
    (given.0, given.1, refl, given.2, omega arith)

pub returns : goal.returns
returns g c = record {
  steps = (
    c.into_iter-symbol_and_model-iterator.result,
    c.into_iter-symbol_and_model-iterator.ensures.into_iter_gives,
    c.loop-symbol_and_model.yielded,
    c.loop-symbol_and_model.self,
    c.loop-symbol_and_model.invariant.2,
    (refl, (c.next.new.self, (c.loop-symbol_and_model.symbol_and_model-iterator, c.loop-symbol_and_model.yielded_by, c.in-None.ensures.steps))),
  );
  fewer_left = λ count most. omega (arith, most c.into_iter-symbol_and_model-iterator.result c.into_iter-symbol_and_model-iterator.ensures.into_iter_gives, c.loop-symbol_and_model.invariant.4);
}
