use Rattle.std.proofs.Common.{◌%◌, ◌^◌, ◌∙◌, arith}
use Rattle.std.proofs.lemmas.List.{take_all}
use Rattle.constriction_queue.specs.Calls.{EncodeCall}
use Rattle.constriction_queue.specs.Encoder.{run_by}
use Rattle.constriction_stream.proofs.Outcomes.{ok_by, frontend_by}
use Rattle.constriction_commands.proofs.Symbols.{impossible_at}
use Rattle.constriction_commands.proofs.Ranges.{narrowed-more, in_order}
use Rattle.constriction_commands.proofs.commands.range_encode.encode.Goals as goal

pub loop-symbol-init : goal.loop-symbol-init
loop-symbol-init g c = record {
  room = omega (arith, c.symbols_left.ensures, c.if-symbols_left-symbols.false);
  narrowed = c.new-coder.ensures.run;
}

pub encode_symbol-requires : goal.encode_symbol-requires
encode_symbol-requires g c = λ _. omega (arith, c.loop-symbol.invariant.room, c.loop-symbol-test.true)

pub loop-symbol-preserved : goal.loop-symbol-preserved
loop-symbol-preserved g c =
    let coded = ok_by (EncodeCall _ _ _ 32 64) _ _ _ _ _ c.in-Ok.ensures.step in
    record {
      room = omega (arith, c.loop-symbol.invariant.room, c.in-Ok.ensures.fewer_left);
      narrowed = narrowed-more _ c.args.symbols.now c.loop-symbol.symbol-index _ _ c.loop-symbol-test.true c.loop-symbol.invariant.narrowed (coded.0, coded.1, coded.2, coded.3.narrowed);
    }

pub returns-clause-ok : goal.returns-clause-ok
returns-clause-ok g c =
    let all = take_all c.loop-symbol.symbol-index c.args.symbols.now c.loop-symbol-test.false in (
      run_by 32 64 c.loop-symbol.coder,
      rw all at c.loop-symbol.invariant.narrowed,
      in_order (λ word. word % 2 ^ 32) _ ∙ c.in_ok-into_compressed.ensures.ok,
    )

pub returns-in-Err-Frontend-clause-err : goal.returns-in-Err-Frontend-clause-err
returns-in-Err-Frontend-clause-err g c =
    let none = frontend_by (EncodeCall _ _ _ 32 64) _ _ _ _ _ _ (rw c.in-Err-Frontend.field-0-is at c.in-Err-Frontend.ensures.step) in
    impossible_at _ c.args.symbols.now c.loop-symbol.symbol-index c.loop-symbol-test.true none.0
