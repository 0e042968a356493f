use Rattle.std.proofs.Common.{◌∙◌, arith}
use Rattle.constriction_base.specs.Models.{IsModel, pairs_of}
use Rattle.constriction_queue.specs.Encoder.{run_by, sealed_by}
use Rattle.constriction_queue.specs.Range.{Run, sealed, initial}
use Rattle.constriction_laws.proofs.PairCalls.{are_pairs}
use Rattle.constriction_laws.proofs.of_queue.Told.{err_weaker, while_reading}
use Rattle.constriction_laws.proofs.queue.round_trips.lent_pairs.decode_lent_words_by_models.Goals as goal
use Rattle.constriction_laws.proofs.ListsGiven.{ok_weaker}

pub returns-clause-read : goal.returns-clause-read
returns-clause-read g c =
    let w = g.Word.Natural.BITS in
    let s = g.State.Natural.BITS in
    let words = c.words.ensures.shows ∙ c.in-Ok.ensures.shows in
    let at = rw words at (c.in-Ok-from_compressed.ensures.ok tt) in
    ok_weaker c.decode_pairs.result (c.decode_pairs.ensures.decoded tt (sealed_by w s c.args.encoder.now) (initial s) at) (λ again read. (read.0, read.1))

pub returns-clause-back : goal.returns-clause-back
returns-clause-back g c = λ symbols coded count.
    let w = g.Word.Natural.BITS in
    let s = g.State.Natural.BITS in
    let table = g.M.EntropyModel.table in
    let lawful : (m : g.row.M.Denot) → IsModel w (record { precision = g.row.PRECISION; table = table m }) =
    λ m. (let sized = g.met.M.EntropyModel.sized m in record { some_bits = sized.0; within_word = omega (arith, sized.1, g.met.M.Probability.WordOf.width_law); lawful = g.M.EntropyModel.lawful m }) in
    let last : Run = run_by w s c.args.encoder.now in
    let words = c.words.ensures.shows ∙ c.in-Ok.ensures.shows in
    let at = rw words at (c.in-Ok-from_compressed.ensures.ok tt) in
    let decoded = c.symbols_come_back.ensures.decoded w s (pairs_of g.row.PRECISION table symbols c.args.models.now) last c.words.ensures.coder.sizes
    (are_pairs g.row.PRECISION table w symbols c.args.models.now lawful) coded in
    ok_weaker c.decode_pairs.result (c.decode_pairs.ensures.back tt (sealed w s last) symbols (initial s) last at decoded count) (λ again back. back.0)

pub returns-clause-err : goal.returns-clause-err
returns-clause-err g c =
    let w = g.Word.Natural.BITS in
    let s = g.State.Natural.BITS in
    let words = c.words.ensures.shows ∙ c.in-Ok.ensures.shows in
    let at = rw words at (c.in-Ok-from_compressed.ensures.ok tt) in
    err_weaker c.decode_pairs.result c.decode_pairs.ensures.err (λ e why. while_reading _ ⊥ ⊥ _ e why (λ none. none tt (sealed_by w s c.args.encoder.now) (initial s) at))
