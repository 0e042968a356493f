use Rattle.std.proofs.Common.{◌≡◌, length, sym, subst, ap, ◌∙◌, arith}
use Rattle.std.specs.Prelude.{reverse}
use Rattle.std.proofs.lemmas.List.{length-map}
use Rattle.constriction_base.specs.Models.{pairs_of}
use Rattle.constriction_stack.specs.Ans.{AnsState, IsNormalized, empty, exported}
use Rattle.constriction_stack.specs.Symbols.{EncodesAll}
use Rattle.constriction_laws.proofs.StepsOfSymbols.{entries_are_steps, steps_of_encodes}
use Rattle.constriction_laws.proofs.of_stack.ComingBack.{empty_valid}
use Rattle.constriction_laws.proofs.of_stack.PairCalls.{are_turned}
use Rattle.constriction_laws.proofs.stack.round_trips.pairs.words_with_pairs.Goals as goal

pub returns-in-Ok-clause-words : goal.returns-in-Ok-clause-words
returns-in-Ok-clause-words g c = λ valid. (c.encode_pairs_reverse.new.coder.state, c.in_ok-encode_pairs_reverse.ensures.coded valid, c.in-Ok.ensures.ok)

pub returns-in-Ok-clause-few : goal.returns-in-Ok-clause-few
returns-in-Ok-clause-few g c = λ new.
    let w = g.Word.Natural.BITS in
    let s = g.State.Natural.BITS in
    let table = g.M.EntropyModel.table in
    let items = reverse (pairs_of g.row.PRECISION table c.args.symbols.now c.args.models.now) in
    let models = are_turned g.row.PRECISION table w c.args.symbols.now c.args.models.now
    (λ m. (let sized = g.met.M.EntropyModel.sized m in record { some_bits = sized.0; within_word = omega (arith, sized.1, g.met.M.Probability.WordOf.width_law); lawful = g.M.EntropyModel.lawful m })) in
    let last : AnsState = c.encode_pairs_reverse.new.coder.state in
    let valid = subst (λ (x : AnsState). IsNormalized w s x) (sym new) (empty_valid w s) in
    let coded : EncodesAll w s items empty last = subst (λ (x : AnsState). EncodesAll w s items x last) new (c.in_ok-encode_pairs_reverse.ensures.coded valid) in
    let steps = steps_of_encodes w s items empty last coded in
    let words = g.Backend.Holds.words c.in-Ok.words in
    let many : length words ≡ length (exported w last) = sym (length-map words g.Word.Natural.number) ∙ ap length c.in-Ok.ensures.ok in (
      steps.0,
      steps.1,
      rw many (c.stack_bound.ensures w s steps.0 last c.in-Ok.ensures.coder.sizes (entries_are_steps w s items steps.0 models steps.1) steps.2),
    )
