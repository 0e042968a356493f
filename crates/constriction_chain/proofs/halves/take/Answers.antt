use Rattle.constriction_chain.proofs.Chains.{coder_of}
use Rattle.constriction_chain.proofs.Outcomes.{halted_of, told_err, told_ok, took_of}
use Rattle.constriction_chain.proofs.halves.take.Goals as goal

pub returns-clause-step : goal.returns-clause-step
returns-clause-step g c =
    let number = g.Word.Natural.number in
    let law = g.met.Word.Natural.number_law in
    let parts = c.requires in
    let before = coder_of _ _ _ number law g.C.Holds g.R.Holds _ _ c.args.compressed.now c.args.remainders.now parts.sized parts.head (law _) parts.window in
    let after = coder_of _ _ _ number law g.C.Holds g.R.Holds _ _ c.take_quantile.new.compressed c.take_quantile.new.remainders parts.sized parts.head (law _) parts.window in
    record {
      ok = told_ok _ _ c.take_quantile.result (λ found taken. took_of number g.C.Holds g.C.ReadWords g.R.Holds g.R.WriteWords _ _ _ _ _ _ _ _ _ _ _ before taken)
          c.take_quantile.ensures.ok;
      err = told_err _ _ c.take_quantile.result
          (λ e halts others kept room. halted_of number g.C.Holds g.C.ReadWords g.R.Holds g.R.WriteWords _ _ _ _ _ _ _ _ _ e before after halts others kept room)
          c.take_quantile.ensures.err c.take_quantile.ensures.others c.take_quantile.ensures.kept c.take_quantile.ensures.room;
    }
