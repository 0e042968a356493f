use Rattle.constriction_lower_tests.proofs.base.laws.asks_for_one.Goals as goal

pub returns-in-Err : goal.returns-in-Err
returns-in-Err g c = λ lack. g.met.B.WriteWords.full_law _ _ c.requires lack c.in-Err.ensures.err
