use Rattle.std.proofs.Common.{rules}
use Rattle.constriction_commands.proofs.CodewordTexts.{with_codeword, without_codeword}
use Rattle.constriction_commands.proofs.codewords.codeword.Goals as goal

pub returns-in-Err-Frontend-clause-found : goal.returns-in-Err-Frontend-clause-found
returns-in-Err-Frontend-clause-found g c =
    let written = rw c.in-Err-Frontend.field-0-is at c.in-Err-Frontend.ensures in
    search (rules, without_codeword, written)

pub returns-clause-known : goal.returns-clause-known
returns-clause-known g c =
    let written = rw c.in-Err-Backend.field-0-is at c.in-Err-Backend.ensures in
    search (rules, with_codeword, written)
