use Rattle.std.specs.Prelude.{map, string_bytes}
use Rattle.std.proofs.Common.{inl, inr}
use Rattle.constriction_commands.specs.Written.{GrowsByBeginning}
use Rattle.constriction_commands.proofs.Answering.{answered}
use Rattle.constriction_commands.proofs.cli.run.Goals as goal

pub returns-in-Ok-clause-whole : goal.returns-in-Ok-clause-whole
returns-in-Ok-clause-whole g c =
    elim c.in-Ok.ensures.whole [
      | inl same ↦ inl same
      | inr some ↦ inr (answered (map string_bytes c.args.args.now) c.in-Some.command (λ answer. GrowsByBeginning (g.O.Write.contents c.args.output.now) (g.O.Write.contents c.answer_to.new.output) answer) (g.R.Read.remaining c.args.input.now) c.in-Some.ensures.some some)
    ]
