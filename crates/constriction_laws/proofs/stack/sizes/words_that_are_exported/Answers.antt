use Rattle.std.specs.Prelude.{◌^◌}
use Rattle.std.specs.Int.Digits.{digits_of}
use Rattle.constriction_stack.proofs.SizesCounted.{exported_length}
use Rattle.constriction_laws.proofs.stack.sizes.words_that_are_exported.Goals as goal
use Rattle.std.proofs.Math.Seq.{drop-append_seam}

pub returns-clause-count : goal.returns-clause-count
returns-clause-count c = exported_length

pub returns-clause-below : goal.returns-clause-below
returns-clause-below c = λ w state. drop-append_seam (digits_of (2 ^ w) state.head) state.words
