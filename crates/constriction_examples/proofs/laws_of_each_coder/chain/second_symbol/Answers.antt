use Rattle.std.proofs.Common.{refl, arith}
use Rattle.constriction_examples.proofs.laws_of_each_coder.chain.second_symbol.Goals as goal

pub returns : goal.returns
returns g c = record {
  second =
      let a = c.in-Ok.ensures.step in
      let x = c.in-Ok-decode_symbol.ensures.step in
      let last = c.decode_symbol-2.new.self.state in (
        c.in-Ok.field-0,
        last,
        (
          c.decode_symbol.new.self.state,
          a.0,
          a.1,
          omega arith,
          g.A.EntropyModel.lawful c.args.first.now,
          a.2,
          a.3.outcome.decoded tt,
          (
            c.in-Ok-change_precision.changed.state,
            c.in-Ok-change_precision.ensures.ok.0,
            (last, x.0, x.1, omega arith, g.M.EntropyModel.lawful c.args.later.now, x.2, x.3.outcome.decoded tt, refl),
          ),
        ),
      );
}
