use Rattle.std.proofs.Common.{◌≤◌}
use Rattle.constriction_lower_tests.proofs.stream.callers.count_of.Given as goal

abbrev pub invariant-loop-answer : goal.invariant-loop-answer
invariant-loop-answer g l =
    (goal.iterator-loop-answer g).can_next l.answer-iterator
    × (goal.iterator-loop-answer g).is_finite l.answer-iterator
    × (l.count ≤ l.most)
