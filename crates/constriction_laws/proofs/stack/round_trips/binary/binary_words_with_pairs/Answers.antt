use Rattle.std.proofs.Common.{◌∙◌, ap, arith}
use Rattle.constriction_stack.specs.Binary.{binary_state, binary_words}
use Rattle.constriction_stack.proofs.BinaryForms.{binary_valid}
use Rattle.constriction_base.specs.Models.{pairs_of}
use Rattle.constriction_laws.proofs.PairCalls.{are_pairs}
use Rattle.constriction_laws.proofs.stack.round_trips.binary.binary_words_with_pairs.Goals as goal

pub returns-in-Ok-clause-back : goal.returns-in-Ok-clause-back
returns-in-Ok-clause-back g c = λ words fit taken.
    let w = g.Word.Natural.BITS in
    let s = g.State.Natural.BITS in
    let table = g.M.EntropyModel.table in
    let symbols = c.args.symbols.now in
    let items = pairs_of g.row.PRECISION table symbols c.args.models.now in
    let middle = c.args.coder.state in
    let last = c.encode_pairs_reverse.new.coder.state in
    let models = are_pairs g.row.PRECISION table w symbols c.args.models.now
    (λ m. (let sized = g.met.M.EntropyModel.sized m in record { some_bits = sized.0; within_word = omega (arith, sized.1, g.met.M.Probability.WordOf.width_law); lawful = g.M.EntropyModel.lawful m })) in
    let valid = c.encodes_undo_decodes.ensures.valid w s items (binary_state w s words) middle c.requires.sizes models (binary_valid w s words c.requires.sizes fit) taken in
    let back = c.binary_words_come_back.ensures.words w s words items middle last c.requires.sizes fit models taken (c.in_ok-encode_pairs_reverse.ensures.coded valid) in
    let given = c.in-Ok.ensures.ok in
    let same = c.one_binary_form.ensures w given.0 back.0 last c.requires.sizes.some_bits given.1 back.1 in
    given.2 ∙ ap (λ m. binary_words w m last) same ∙ back.2

pub returns-in-Err-None-clause-err : goal.returns-in-Err-None-clause-err
returns-in-Err-None-clause-err g c = (
  λ words fit taken.
      let w = g.Word.Natural.BITS in
      let s = g.State.Natural.BITS in
      let table = g.M.EntropyModel.table in
      let symbols = c.args.symbols.now in
      let items = pairs_of g.row.PRECISION table symbols c.args.models.now in
      let middle = c.args.coder.state in
      let last = c.encode_pairs_reverse.new.coder.state in
      let models = are_pairs g.row.PRECISION table w symbols c.args.models.now
      (λ m. (let sized = g.met.M.EntropyModel.sized m in record { some_bits = sized.0; within_word = omega (arith, sized.1, g.met.M.Probability.WordOf.width_law); lawful = g.M.EntropyModel.lawful m })) in
      let valid = c.encodes_undo_decodes.ensures.valid w s items (binary_state w s words) middle c.requires.sizes models (binary_valid w s words c.requires.sizes fit) taken in
      let back = c.binary_words_come_back.ensures.words w s words items middle last c.requires.sizes fit models taken (c.in_ok-encode_pairs_reverse.ensures.coded valid) in
      c.into_binary.ensures.variant.0 (rw c.in-Err-None.field-0-is at c.in-Err-None.is) back.0 back.1,
  λ valid. (c.encode_pairs_reverse.new.coder.state, c.in_ok-encode_pairs_reverse.ensures.coded valid, c.into_binary.ensures.variant.0 (rw c.in-Err-None.field-0-is at c.in-Err-None.is)),
)

pub returns-in-Ok-clause-words : goal.returns-in-Ok-clause-words
returns-in-Ok-clause-words g c = λ valid.
    let given = c.in-Ok.ensures.ok in
    (c.encode_pairs_reverse.new.coder.state, given.0, c.in_ok-encode_pairs_reverse.ensures.coded valid, given.1, given.2)
