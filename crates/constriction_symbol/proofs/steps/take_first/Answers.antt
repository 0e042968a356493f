use Rattle.std.proofs.Common.{ap}
use Rattle.constriction_symbol.specs.Bits.{bits_behind}
use Rattle.constriction_symbol.proofs.steps.take_first.Goals as goal

pub returns-clause-bits : goal.returns-clause-bits
returns-clause-bits g c = λ is_list. ap (λ bs. bits_behind g.Word.Natural.BITS g.Word.Natural.number bs (g.B.Holds.words c.args.backend.now)) c.take_first.ensures
