use Rattle.std.proofs.Common.{◌+◌, ◌-◌, length}
use Rattle.constriction_symbol.specs.Golomb.{binary}
use Rattle.constriction_laws.proofs.of_symbol.bit_coders.Forms.{behind_zeros}
use Rattle.constriction_laws.proofs.symbol.golomb.golomb_suffix_ends_in_zeros.Goals as goal

pub returns : goal.returns
returns c = λ n. behind_zeros (length (binary (n + 1)) - 1) (binary (n + 1))
