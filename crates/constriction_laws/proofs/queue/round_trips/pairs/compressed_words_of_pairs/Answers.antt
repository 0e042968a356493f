use Rattle.std.proofs.Common.{◌≡◌, ◌-◌, ◌*◌, ◌<◌, ◌≤◌, ◌^◌, List, length, map, sym, subst, ap, ◌∙◌, arith}
use Rattle.std.proofs.lemmas.List.{length-map, length-reverse}
use Rattle.constriction_base.specs.Steps.{Step, AreSteps}
use Rattle.constriction_base.specs.Models.{pairs_of}
use Rattle.constriction_queue.specs.Encoder.{run_by}
use Rattle.constriction_queue.specs.Range.{Run, sealed, initial}
use Rattle.constriction_laws.specs.Bounds.{product, rounded_whole, share}
use Rattle.constriction_queue.specs.Symbols.{NarrowsAll}
use Rattle.constriction_laws.proofs.PairCalls.{are_pairs}
use Rattle.constriction_laws.proofs.StepsOfSymbols.{narrowed_entries}
use Rattle.constriction_queue.proofs.Entries.{entries, are_steps, run_is}
use Rattle.constriction_laws.proofs.queue.round_trips.pairs.compressed_words_of_pairs.Goals as goal

pub returns-in-Ok-clause-few : goal.returns-in-Ok-clause-few
returns-in-Ok-clause-few g c = λ new.
    let w = g.Word.Natural.BITS in
    let s = g.State.Natural.BITS in
    let table = g.M.EntropyModel.table in
    let items = pairs_of g.row.PRECISION table c.args.symbols.now c.args.models.now in
    let models = are_pairs g.row.PRECISION table w c.args.symbols.now c.args.models.now
    (λ m. (let sized = g.met.M.EntropyModel.sized m in record { some_bits = sized.0; within_word = omega (arith, sized.1, g.met.M.Probability.WordOf.width_law); lawful = g.M.EntropyModel.lawful m })) in
    let last : Run = run_by w s c.encode_pairs.new.encoder in
    let coded : NarrowsAll w s items (initial s) last = subst (λ r. NarrowsAll w s items r last) new c.in_ok-encode_pairs.ensures.narrowed in
    let steps : List Step = entries w s items (initial s) last coded in
    let are : AreSteps w steps = are_steps w s items (initial s) last coded models in
    let words = g.Backend.Holds.words c.in-Ok.words in
    let many : length words ≡ length (sealed w s last) =
    sym (length-map words g.Word.Natural.number) ∙ sym (length-reverse (map g.Word.Natural.number words)) ∙ ap length c.in-Ok.ensures.ok in (
      steps,
      narrowed_entries w s items (initial s) last coded,
      λ two. rw many (subst (λ (r : Run). 2 ≤ length (sealed w s r) → 2 ^ (w * (length (sealed w s r) - 2)) * (2 ^ s - 1) * product (share w s) steps < 2 ^ s * product (rounded_whole w s) steps)
          (run_is w s items (initial s) last coded) (c.range_bound.ensures w s steps c.in-Ok.ensures.coder.sizes are) (rw many at two)),
    )
