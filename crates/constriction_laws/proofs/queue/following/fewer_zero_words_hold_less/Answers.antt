use Rattle.constriction_queue.proofs.SelfDelimited.{ones_behind, words_ones}
use Rattle.constriction_queue.proofs.Followed.{fewer_read}
use Rattle.constriction_laws.proofs.queue.following.fewer_zero_words_hold_less.Goals as goal

pub returns : goal.returns
returns g c = λ w s count fewer first others last z ms h least less.
    (ones_behind w s fewer, words_ones w s fewer, λ end found. fewer_read w s z count fewer first others last end ms h least less found)
