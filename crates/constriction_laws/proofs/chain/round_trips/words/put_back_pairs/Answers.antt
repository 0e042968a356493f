use Rattle.std.proofs.Common.{◌∙◌, ◌++◌, refl, sym}
use Rattle.constriction_chain.specs.Words.{remainder_words}
use Rattle.constriction_base.specs.Models.{pairs_of}
use Rattle.constriction_chain.specs.Imports.{FromRemainders}
use Rattle.constriction_laws.proofs.of_chain.ComingBack.{come_back}
use Rattle.constriction_laws.proofs.of_chain.ListCalls.{pairs_at}
use Rattle.constriction_chain.proofs.NoCoder.{no_remainders}
use Rattle.constriction_laws.proofs.chain.round_trips.words.put_back_pairs.Goals as goal

pub returns-in-Err-Frontend-clause-err : goal.returns-in-Err-Frontend-clause-err
returns-in-Err-Frontend-clause-err g c =
    no_remainders g.Word.Natural.number _ _ g.Word.Natural.BITS g.State.Natural.BITS g.row.PRECISION tt c.requires c.args.remainders c.in-Err-Frontend.field-0-0
    (rw c.in-Err-Frontend.field-0-is at c.in-Err-Frontend.ensures.err)

pub returns-in-Ok-encode_pairs_reverse-clause-back : goal.returns-in-Ok-encode_pairs_reverse-clause-back
returns-in-Ok-encode_pairs_reverse-clause-back g c = λ x after below whole taken are.
    let w = g.Word.Natural.BITS in
    let s = g.State.Natural.BITS in
    let P = g.row.PRECISION in
    let table = g.M.EntropyModel.table in
    let symbols = c.args.symbols.now in
    let z = c.in-Ok.coder.state in
    let from : FromRemainders w s P (remainder_words w after ++ below) z = record { chain = c.in-Ok.ensures.coder.chain; compressed = c.in-Ok.ensures.ok.0; are = sym are ∙ c.in-Ok.ensures.ok.1 tt } in
    come_back w s P c.requires below (pairs_of P table symbols c.args.models.now) x after z _
    (pairs_at P table symbols c.args.models.now (λ m. record { level = refl; lawful = g.M.EntropyModel.lawful m })) whole taken from (c.in-Ok-encode_pairs_reverse.ensures.encoded tt)
