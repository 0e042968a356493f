use Rattle.std.proofs.Common.{arith, inr}
use Rattle.constriction_base.proofs.Entries.{in_range}
use Rattle.constriction_chain.proofs.Outcomes.{decoded, undecoded}
use Rattle.constriction_chain.proofs.Taking.{covered}
use Rattle.constriction_base.proofs.Sizes.{same_number}
use Rattle.constriction_chain.proofs.coder.symbols.ChainCoderDecode.decode_symbol.Goals as goal

pub quantile_function-symbol-requires : goal.quantile_function-symbol-requires
quantile_function-symbol-requires g c =
    let below = c.in_ok-quantile.ensures.step.ok.below in
    rw (c.narrow.ensures, same_number _ _ _ below (g.met.M.EntropyModel.sized c.args.model).1) below

pub keep-requires-clause-covers : goal.keep-requires-clause-covers
keep-requires-clause-covers g c =
    let covers = covered _ _ _ _ _ _ c.in_ok-quantile.ensures.step.ok.below (g.met.M.EntropyModel.sized c.args.model).1 c.narrow.ensures c.quantile_function-symbol.ensures.covers in
    rw (c.widen-left.ensures, c.widen-p.ensures, c.from_nonzero.ensures) covers

pub keep-requires-clause-few : goal.keep-requires-clause-few
keep-requires-clause-few g c =
    let within = in_range _ _ _ _ _ _ (g.M.EntropyModel.lawful c.args.model).follow c.quantile_function-symbol.ensures.found in
    rw (c.widen-p.ensures, c.from_nonzero.ensures) (omega (arith, within.2))

pub returns-in-Ok : goal.returns-in-Ok
returns-in-Ok g c =
    let number = g.Word.Natural.number in
    let taken = rw c.numbers-h.ensures.parts at c.in_ok-quantile.ensures.step.ok in
    let covers = covered _ _ _ _ _ _ taken.below (g.met.M.EntropyModel.sized c.args.model).1 c.narrow.ensures c.quantile_function-symbol.ensures.covers in
    let kept = rw (c.widen-left.ensures, c.widen-p.ensures, c.from_nonzero.ensures, c.numbers-h.ensures.parts) at c.in-Ok.ensures.ok in
    rw (← c.self.view_is, c.replace.ensures) (record {
      step = (
        _,
        _,
        c.quantile_function-symbol.ensures.found,
        decoded number g.C.Holds g.C.ReadWords g.R.Holds g.R.WriteWords _ _ g.met.Word.Natural.number_law _ _ _ _ _ _ _ _ _ _ _ covers.0 covers.1 (g.met.Word.Natural.number_law _) taken kept,
      );
    })

pub returns : goal.returns
returns g c =
    let number = g.Word.Natural.number in
    let taken = rw c.numbers-h.ensures.parts at c.in_ok-quantile.ensures.step.ok in
    let covers = covered _ _ _ _ _ _ taken.below (g.met.M.EntropyModel.sized c.args.model).1 c.narrow.ensures c.quantile_function-symbol.ensures.covers in
    let lost = rw (c.widen-left.ensures, c.widen-p.ensures, c.from_nonzero.ensures, c.numbers-h.ensures.parts) at c.in-Err.ensures.err in
    rw (← c.self.view_is) (record {
      step = inr (
        _,
        (
          _,
          _,
          c.quantile_function-symbol.ensures.found,
          undecoded number g.C.Holds g.C.ReadWords g.R.Holds g.R.WriteWords g.met.R.WriteWords.room_law _ _ g.met.Word.Natural.number_law _ _ _ _ _ _ _ _ _ _ _ covers.0 covers.1 taken lost,
        ),
      );
    })
