use Rattle.std.proofs.Common.{◌≡◌, ◌≤◌, ◌∙◌, length, take, refl, sym, ap, subst, arith}
use Rattle.std.specs.Prelude.{reverse, map}
use Rattle.constriction_stack.specs.Ans.{AnsState}
use Rattle.constriction_stack.specs.Positions.{AnsPosition, sought}
use Rattle.constriction_stack.proofs.PositionsKept.{sought_back}
use Rattle.constriction_base.specs.Models.{pairs_of}
use Rattle.constriction_stack.specs.Symbols.{EncodesAll, DecodesAll}
use Rattle.constriction_laws.proofs.ListsGiven.{ok_weaker}
use Rattle.constriction_laws.proofs.of_stack.Seeking.{there_is_sought}
use Rattle.constriction_laws.proofs.stack.round_trips.positions.pairs_at_position.Goals as goal

pub returns-clause-read : goal.returns-clause-read
returns-clause-read g c =
    let w = g.Word.Natural.BITS in
    let s = g.State.Natural.BITS in
    let f = g.Word.Natural.number in
    let table = g.M.EntropyModel.table in
    let models = c.args.models.now in
    let state : AnsState = c.args.coder.now.state in
    let at = c.as_seekable_decoder-decoder.result.backend in
    let buf = at.buf.now in
    let becomes = c.as_seekable_decoder-decoder.ensures.place in
    let position : AnsPosition = record { held = c.args.position.0; head = g.State.Natural.number c.args.position.1 } in
    let words : state.words ≡ map f (reverse (take at.pos buf)) =
    ap (λ (x : AnsState). x.words) (sym c.as_seekable_decoder-decoder.ensures.state) ∙ c.as_seekable_decoder-decoder.ensures.coder.words_are in
    let stands : at.pos ≡ length buf = omega (arith, becomes.1, ap length becomes.0) in
    let within : position.held ≤ length buf = c.in-Ok.ensures.variant refl in
    let sought_here = c.in-Ok.ensures.ok in
    let found : c.seek.new.self.state ≡ sought position state =
    sought_here.1 ∙ ap (λ b. let x : AnsState = record { head = position.head; words = map f (reverse (take b.pos b.buf.now)) } in x) sought_here.0
    ∙ there_is_sought f buf at.pos position.held position.head state stands words within in
    ok_weaker c.decode_pairs.result (c.decode_pairs.ensures.decoded tt)
    (λ again decoded. (c.decode_pairs.new.coder.state, subst (λ x. DecodesAll w s (pairs_of g.row.PRECISION table again.items models) x c.decode_pairs.new.coder.state) found decoded))

pub returns-clause-back : goal.returns-clause-back
returns-clause-back g c = λ symbols old there coded named grows count.
    let w = g.Word.Natural.BITS in
    let s = g.State.Natural.BITS in
    let f = g.Word.Natural.number in
    let table = g.M.EntropyModel.table in
    let models = c.args.models.now in
    let state : AnsState = c.args.coder.now.state in
    let at = c.as_seekable_decoder-decoder.result.backend in
    let buf = at.buf.now in
    let becomes = c.as_seekable_decoder-decoder.ensures.place in
    let position : AnsPosition = record { held = c.args.position.0; head = g.State.Natural.number c.args.position.1 } in
    let words : state.words ≡ map f (reverse (take at.pos buf)) =
    ap (λ (x : AnsState). x.words) (sym c.as_seekable_decoder-decoder.ensures.state) ∙ c.as_seekable_decoder-decoder.ensures.coder.words_are in
    let stands : at.pos ≡ length buf = omega (arith, becomes.1, ap length becomes.0) in
    let within : position.held ≤ length buf = c.in-Ok.ensures.variant refl in
    let sought_here = c.in-Ok.ensures.ok in
    let found : c.seek.new.self.state ≡ sought position state =
    sought_here.1 ∙ ap (λ b. let x : AnsState = record { head = position.head; words = map f (reverse (take b.pos b.buf.now)) } in x) sought_here.0
    ∙ there_is_sought f buf at.pos position.held position.head state stands words within in
    let back : c.seek.new.self.state ≡ there = found ∙ ap (λ p. sought p state) named ∙ sought_back there state grows in
    ok_weaker c.decode_pairs.result
    (c.decode_pairs.ensures.back tt symbols old (subst (λ x. EncodesAll w s (reverse (pairs_of g.row.PRECISION table symbols models)) old x) (sym back) coded) count)
    (λ again back. back.0)
