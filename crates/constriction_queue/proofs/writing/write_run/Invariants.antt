use Rattle.std.specs.Prelude.{Ok}
use Rattle.constriction_base.specs.Writing.{WritesAll}
use Rattle.constriction_queue.specs.Encoder.{repeated_words}
use Rattle.constriction_queue.proofs.writing.write_run.Given as goal

-- so many are written
abbrev pub invariant-loop-i : goal.invariant-loop-i
invariant-loop-i g l = record {
  written : WritesAll g.Word.Natural.number g.Backend.Holds g.Backend.WriteWords (repeated_words (g.Word.Natural.number l.fn.held.others) l.i (g.Word.Natural.number l.fn.held.first)) l.fn.bulk (Ok tt) l.bulk;
}
