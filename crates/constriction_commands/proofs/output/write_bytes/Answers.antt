use Rattle.std.proofs.Common.{length-drop, arith}
use Rattle.std.proofs.lemmas.List.{take_rest}
use Rattle.constriction_commands.proofs.Taken.{appends-kept, appends-more}
use Rattle.constriction_commands.proofs.output.write_bytes.Goals as goal
use Rattle.constriction_commands.proofs.output.write_bytes.Goals.{in-Ok, in-Err}

pub loop-preserved : goal.loop-preserved
loop-preserved g c =
    let bytes = c.args.bytes.now in
    let count = c.loop.count in
    elim c.match-write.branch [
      | in-Ok w ↦
          let more = rw (take_rest bytes count) at w.in-Ok.ensures.bytes in
          let bound = rw (take_rest bytes count) at w.in-Ok.ensures.bound in
          record {
            within = omega (arith, w.count-is, bound, length-drop count bytes, c.if-count-bytes.false);
            written = rw w.count-is (appends-more _ _ _ bytes count w.in-Ok.more c.loop.invariant.written more);
          }
      | in-Err w ↦ record {
        within = omega (arith, w.count-is, c.loop.invariant.within);
        written = rw w.count-is (appends-kept _ _ _ _ c.loop.invariant.written w.in-Err.ensures.bytes);
      }
    ]
