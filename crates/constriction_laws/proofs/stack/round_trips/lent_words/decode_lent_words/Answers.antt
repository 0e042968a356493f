use Rattle.std.proofs.Common.{◌∙◌, ap, sym, subst, map}
use Rattle.std.specs.Prelude.{reverse}
use Rattle.constriction_stack.specs.Ans.{filled}
use Rattle.constriction_base.specs.Models.{pairs_of}
use Rattle.constriction_stack.specs.Symbols.{DecodesAll, EncodesAll}
use Rattle.constriction_laws.proofs.ListsGiven.{ok_weaker}
use Rattle.constriction_laws.proofs.stack.round_trips.lent_words.decode_lent_words.Goals as goal

pub returns-clause-back : goal.returns-clause-back
returns-clause-back g c = λ symbols before valid coded count.
    let w = g.Word.Natural.BITS in
    let s = g.State.Natural.BITS in
    let number = g.Word.Natural.number in
    let items = reverse (pairs_of g.row.PRECISION g.M.EntropyModel.table symbols c.args.models.now) in
    let state = c.args.coder.now.state in
    let shown = c.shown_words_are_exported.ensures.compressed w s state _ c.backend-words.ensures.coder.sizes valid c.in-Ok.ensures.shows in
    let words = ap (λ ws. filled w s 0 (map number (reverse ws))) c.as_slice.ensures.value ∙ ap (λ ws. filled w s 0 ws) (ap (λ b. map number (reverse b.items)) c.backend-words.ensures.backend ∙ sym c.backend-words.ensures.coder.words_are) in
    let start = c.in-Ok-from_compressed_slice.ensures.ok ∙ words ∙ shown in
    ok_weaker c.decode_pairs.result
    (c.decode_pairs.ensures.back tt symbols before (subst (λ x. EncodesAll w s items before x) (sym start) coded) count)
    (λ again back. back.0)

pub returns-clause-read : goal.returns-clause-read
returns-clause-read g c =
    let w = g.Word.Natural.BITS in
    let s = g.State.Natural.BITS in
    let number = g.Word.Natural.number in
    let words = ap (λ ws. filled w s 0 (map number (reverse ws))) c.as_slice.ensures.value ∙ ap (λ ws. filled w s 0 ws) (ap (λ b. map number (reverse b.items)) c.backend-words.ensures.backend ∙ sym c.backend-words.ensures.coder.words_are) in
    let start = c.in-Ok-from_compressed_slice.ensures.ok ∙ words ∙ ap (λ x. filled w s 0 x.words) c.in-Ok.ensures.shows in
    ok_weaker c.decode_pairs.result (c.decode_pairs.ensures.decoded tt)
    (λ again taken. (c.decode_pairs.new.coder.state, subst (λ x. DecodesAll w s (pairs_of g.row.PRECISION g.M.EntropyModel.table again.items c.args.models.now) x c.decode_pairs.new.coder.state) start taken))
