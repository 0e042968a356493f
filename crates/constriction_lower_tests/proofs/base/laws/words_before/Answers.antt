use Rattle.constriction_lower_tests.proofs.base.laws.words_before.Goals as goal

pub pos-requires : goal.pos-requires
pos-requires g c = g.met.B.CountsWords.told_law _

pub returns : goal.returns
returns g c = g.met.B.CountsWords.count_law _ _ c.pos.ensures
