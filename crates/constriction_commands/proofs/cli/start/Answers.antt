use Rattle.std.proofs.Common.{inl, ◌∙◌, sym}
use Rattle.constriction_commands.specs.Written.{GrowsByBeginning, fault_line}
use Rattle.constriction_commands.specs.Starting.{BeginsAnswer}
use Rattle.constriction_commands.proofs.Starting.{whole_by_run, stops_by_run, stops_by_memory}
use Rattle.constriction_commands.proofs.cli.start.Goals as goal
use Rattle.constriction_commands.proofs.cli.start.Goals.{in-Ok, in-Err}

pub returns-clause-whole : goal.returns-clause-whole
returns-clause-whole g c =
    elim c.match-arguments.branch [
      | in-Ok w ↦
          let ran = rw w.as_slice.ensures.value at w.run-status.ensures in
          whole_by_run c.args.given w.in-Ok.args.items c.args.output.now w.run-status.new.output c.match-arguments.output
          (λ made words. BeginsAnswer words (g.R.Read.remaining c.args.input.now) g.O.Write.contents c.args.output.now made)
          (rw w.in-Ok.is at c.arguments.ensures.behind_name) (rw w.in-Ok.is at c.arguments.ensures.none)
          (λ unnamed. (ran.kept (ran.usage.1 unnamed)).0) ran.whole w.output-is
      | in-Err w ↦ inl w.output-is
    ]

pub returns-clause-err : goal.returns-clause-err
returns-clause-err g c one =
    elim c.match-arguments.branch [
      | in-Ok w ↦
          let ran = rw w.as_slice.ensures.value at w.run-status.ensures in
          let one_by_run = sym w.status-is ∙ sym c.from.ensures ∙ one in
          rw w.faults-is (stops_by_run c.args.given w.in-Ok.args.items (g.R.Read.remaining c.args.input.now) w.run-status.result
          (λ fault. GrowsByBeginning (g.E.Write.contents c.args.faults.now) (g.E.Write.contents w.run-status.new.faults) (fault_line fault))
          (rw w.in-Ok.is at c.arguments.ensures.behind_name) (rw w.in-Ok.is at c.arguments.ensures.none)
          ran.usage.1 one_by_run (ran.err one_by_run))
      | in-Err w ↦
          let error = w.in-Err.error in
          rw w.faults-is (error, stops_by_memory c.args.given (g.R.Read.remaining c.args.input.now) error (rw w.in-Err.is at c.arguments.ensures.err), w.report-status.ensures.line)
    ]
