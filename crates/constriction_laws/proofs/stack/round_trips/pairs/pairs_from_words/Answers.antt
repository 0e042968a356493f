use Rattle.std.proofs.Common.{◌∙◌, ap, sym, subst}
use Rattle.std.specs.Prelude.{reverse}
use Rattle.constriction_stack.specs.Ans.{filled}
use Rattle.constriction_base.specs.Models.{pairs_of}
use Rattle.constriction_stack.specs.Symbols.{EncodesAll, DecodesAll}
use Rattle.constriction_laws.proofs.of_stack.ComingBack.{encoded_all_valid}
use Rattle.constriction_laws.proofs.stack.round_trips.pairs.pairs_from_words.Goals as goal

pub returns-clause-read : goal.returns-clause-read
returns-clause-read g c = λ known.
    let items = pairs_of g.row.PRECISION g.M.EntropyModel.table c.in_ok-again.again.items c.args.models.now in
    subst (λ x. DecodesAll g.Word.Natural.BITS g.State.Natural.BITS items x c.decode_pairs.new.coder.state) (c.in-Ok.ensures.ok known) (c.in_ok-again.ensures.decoded known)

pub returns-clause-reads : goal.returns-clause-reads
returns-clause-reads g c = (c.in-Ok.decoder, c.in-Ok.ensures.reads, c.in-Ok.ensures.coder.head_fits, c.in_ok-again.ensures.read)

pub returns-clause-back : goal.returns-clause-back
returns-clause-back g c = λ known symbols old valid exports count.
    let w = g.Word.Natural.BITS in
    let s = g.State.Natural.BITS in
    let items = reverse (pairs_of g.row.PRECISION g.M.EntropyModel.table symbols c.args.models.now) in
    let full = encoded_all_valid w s items old exports.0 valid exports.1 in
    let imported = c.in-Ok.ensures.ok known ∙ ap (λ ws. filled w s 0 ws) exports.2 ∙ c.import_of_export.ensures.state w s exports.0 c.requires full in
    c.in_ok-again.ensures.back known symbols old (subst (λ x. EncodesAll w s items old x) (sym imported) exports.1) count
