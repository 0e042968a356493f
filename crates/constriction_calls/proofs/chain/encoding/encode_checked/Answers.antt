use Rattle.std.proofs.Common.{arith, refl}
use Rattle.constriction_inputs.proofs.Asking.{fit_ok}
use Rattle.constriction_calls.specs.ChainCalls.{AreInUse, chain_buffers}
use Rattle.constriction_calls.proofs.ChainAnswers.{puts_ended}
use Rattle.constriction_calls.proofs.chain.encoding.encode_checked.Goals as goal

pub returns-in-Ok : goal.returns-in-Ok
returns-in-Ok g c =
    let coded = g.I.Items.coded c.args.items.now in
    let old = chain_buffers c.args.heads.now c.args.compressed.now c.args.len.now c.args.remainders.now c.args.rest.now in
    let within : AreInUse old = (omega (arith, c.if-len-compressed.false), omega (arith, c.if-rest-remainders.false)) in
    let right = c.in-Some.ensures.variant.0 refl in
    let now = c.encode_list.new in
    record {
      call = puts_ended g.Word.Natural.number g.State.Natural.number g.Word.Natural.BITS g.State.Natural.BITS g.row.PRECISION old within coded (fit_ok g.row.PRECISION coded c.in_ok-check.ensures)
          (record { some = right.0; window = right.1 }) _ c.in-Some-list.ensures.items (chain_buffers now.heads now.compressed now.len c.args.remainders.now now.rest) c.in-Ok.ensures;
    }
