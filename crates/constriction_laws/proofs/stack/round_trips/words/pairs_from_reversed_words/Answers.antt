use Rattle.std.proofs.Common.{◌∙◌, ap, sym, subst}
use Rattle.std.specs.Prelude.{reverse}
use Rattle.constriction_stack.specs.Ans.{filled, empty}
use Rattle.constriction_base.specs.Models.{pairs_of}
use Rattle.constriction_stack.specs.Symbols.{EncodesAll, DecodesAll}
use Rattle.constriction_laws.proofs.of_stack.ComingBack.{encoded_all_valid, empty_valid}
use Rattle.constriction_laws.proofs.ListsGiven.{ok_weaker}
use Rattle.constriction_laws.proofs.stack.round_trips.words.pairs_from_reversed_words.Goals as goal

pub returns-clause-read : goal.returns-clause-read
returns-clause-read g c =
    let w = g.Word.Natural.BITS in
    let s = g.State.Natural.BITS in
    ok_weaker c.decode_pairs.result (c.decode_pairs.ensures.decoded tt)
    (λ again decoded. (
      c.decode_pairs.new.coder.state,
      subst (λ x. DecodesAll w s (pairs_of g.row.PRECISION g.M.EntropyModel.table again.items c.args.models.now) x c.decode_pairs.new.coder.state) c.in-Ok.ensures.ok decoded,
    ))

pub returns-clause-back : goal.returns-clause-back
returns-clause-back g c = λ symbols state coded same count.
    let w = g.Word.Natural.BITS in
    let s = g.State.Natural.BITS in
    let items = reverse (pairs_of g.row.PRECISION g.M.EntropyModel.table symbols c.args.models.now) in
    let full = encoded_all_valid w s items empty state (empty_valid w s) coded in
    let start = c.in-Ok.ensures.ok ∙ ap (λ ws. filled w s 0 ws) same ∙ c.import_of_export.ensures.state w s state c.requires full in
    ok_weaker c.decode_pairs.result
    (c.decode_pairs.ensures.back tt symbols empty (subst (λ x. EncodesAll w s items empty x) (sym start) coded) count)
    (λ again back. back.0)
