use Rattle.std.proofs.Common.{◌≡◌, ◌+◌, ◌-◌, ◌<◌, length, arith}
use Rattle.constriction_stack.specs.Ans.{EncodeCall}
use Rattle.constriction_stream.proofs.Outcomes.{ok_by, frontend_by}
use Rattle.constriction_commands.proofs.Symbols.{empty_valid, encoded-none, encoded-more, impossible_at}
use Rattle.constriction_commands.proofs.commands.ans_encode.encode.Goals as goal

pub loop-left-init : goal.loop-left-init
loop-left-init g c = record {
  within = omega arith;
  valid = rw c.new-coder.ensures.state empty_valid;
  encoded = encoded-none _ c.args.symbols.now (length c.args.symbols.now) _ (omega arith) c.new-coder.ensures.state;
}

pub loop-left-preserved : goal.loop-left-preserved
loop-left-preserved g c =
    let coded = ok_by (EncodeCall _ _ _ 32 64) _ _ _ _ _ c.in-Ok.ensures.step in
    let push = coded.3.pushed c.loop-left.invariant.valid in
    let inside : c.loop-left.left - 1 < length c.args.symbols.now = omega (arith, c.loop-left-test.true, c.loop-left.invariant.within) in
    let next : c.loop-left.left ≡ (c.loop-left.left - 1) + 1 = omega (arith, c.loop-left-test.true) in
    record {
      within = omega arith;
      valid = push.valid;
      encoded = encoded-more _ c.args.symbols.now (c.loop-left.left - 1) c.loop-left.left _ _ inside next c.loop-left.invariant.encoded (coded.0, coded.1, coded.2, push);
    }

pub returns-clause-ok : goal.returns-clause-ok
returns-clause-ok g c =
    let none : c.loop-left.left ≡ 0 = omega (arith, c.loop-left-test.false) in
    (c.loop-left.coder.state, rw none at c.loop-left.invariant.encoded, c.in_ok-into_compressed.ensures.ok)

pub returns-in-Err-Frontend-clause-err : goal.returns-in-Err-Frontend-clause-err
returns-in-Err-Frontend-clause-err g c =
    let inside : c.loop-left.left - 1 < length c.args.symbols.now = omega (arith, c.loop-left-test.true, c.loop-left.invariant.within) in
    let none = frontend_by (EncodeCall _ _ _ 32 64) _ _ _ _ _ _ (rw c.in-Err-Frontend.field-0-is at c.in-Err-Frontend.ensures.step) in
    impossible_at _ c.args.symbols.now (c.loop-left.left - 1) inside none.0
