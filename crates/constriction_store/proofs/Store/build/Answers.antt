use Rattle.std.specs.Prelude.{reverse}
use Rattle.std.proofs.Common.{◌≡◌, ℕ, List, [], map, append-nil, refl, sym, subst, arith}
use Rattle.std.proofs.lemmas.List.{length-map, reverse-reverse}
use Rattle.constriction_base.specs.Models.{Model, IsModel}
use Rattle.constriction_queue.specs.Encoder.{run_by}
use Rattle.constriction_queue.specs.Range.{Run, initial}
use Rattle.constriction_queue.specs.SelfDelimiting.{SelfDelimits}
use Rattle.constriction_queue.proofs.Showing.{queue_is}
use Rattle.constriction_queue.proofs.Followed.{come_back_whatever_follows}
use Rattle.constriction_store.specs.Stores.{Indexes, entry_at}
use Rattle.constriction_store.specs.Chunks.{lists_of}
use Rattle.constriction_store.proofs.Indexed.{held_chunks, is_index, some_chunks}
use Rattle.constriction_store.proofs.Store.build.Goals as goal

pub invariant_of-result : goal.invariant_of-result
invariant_of-result g c =
    let w = g.Word.Natural.BITS in
    let s = g.State.Natural.BITS in
    let number = g.Word.Natural.number in
    let model : Model ℕ = record { precision = g.row.PRECISION; table = g.M.EntropyModel.table c.args.model } in
    let items = c.in-Ok.words.items in
    let last : Run = run_by w s c.encode_chunks.new.encoder in
    let turned : reverse (map number (reverse items)) ≡ map number items = sym (queue_is number (reverse items) (sym (reverse-reverse items)) refl) in
    let are : SelfDelimits w s last (map number items) = subst (λ ws. SelfDelimits w s last ws) turned c.in-Ok.ensures.ok in
    (c.requires, rw length-map at (is_index w s model (lists_of c.args.chunks.now) (map entry_at c.in_ok-index.index.items) (run_by w s c.new-encoder.result) last (map number items) c.in_ok-index.ensures.ok are (c.are_few.ensures.0 c.if-not-are_few.false)))

pub returns-in-Ok-clause-built : goal.returns-in-Ok-clause-built
returns-in-Ok-clause-built g c =
    let w = g.Word.Natural.BITS in
    let s = g.State.Natural.BITS in
    let number = g.Word.Natural.number in
    let model : Model ℕ = record { precision = g.row.PRECISION; table = g.M.EntropyModel.table c.args.model } in
    let items = c.in-Ok.words.items in
    let last : Run = run_by w s c.encode_chunks.new.encoder in
    let turned : reverse (map number (reverse items)) ≡ map number items = sym (queue_is number (reverse items) (sym (reverse-reverse items)) refl) in
    let are : SelfDelimits w s last (map number items) = subst (λ ws. SelfDelimits w s last ws) turned c.in-Ok.ensures.ok in
    (last, subst (λ (r : Run). Indexes w s model (lists_of c.args.chunks.now) (map entry_at c.in_ok-index.index.items) r last) c.new-encoder.ensures.run c.in_ok-index.ensures.ok, are)

pub returns-in-Ok-clause-chunks : goal.returns-in-Ok-clause-chunks
returns-in-Ok-clause-chunks g c =
    let w = g.Word.Natural.BITS in
    let s = g.State.Natural.BITS in
    let number = g.Word.Natural.number in
    let sized = g.met.M.EntropyModel.sized c.args.model in
    let model : Model ℕ = record { precision = g.row.PRECISION; table = g.M.EntropyModel.table c.args.model } in
    let lawful : IsModel w model = record { some_bits = sized.0; within_word = omega (arith, sized.1, g.met.M.Probability.WordOf.width_law); lawful = g.M.EntropyModel.lawful c.args.model } in
    let items = c.in-Ok.words.items in
    let words : List ℕ = map number items in
    let last : Run = run_by w s c.encode_chunks.new.encoder in
    let turned : reverse (map number (reverse items)) ≡ words = sym (queue_is number (reverse items) (sym (reverse-reverse items)) refl) in
    let are : SelfDelimits w s last words = subst (λ ws. SelfDelimits w s last ws) turned c.in-Ok.ensures.ok in
    let chunks : List (List ℕ) = lists_of c.args.chunks.now in
    let indexed : Indexes w s model chunks (map entry_at c.in_ok-index.index.items) (initial s) last = subst (λ (r : Run). Indexes w s model chunks (map entry_at c.in_ok-index.index.items) r last) c.new-encoder.ensures.run c.in_ok-index.ensures.ok in
    held_chunks w s model words c.requires lawful
    (λ before since middle last bs ss h k are. rw append-nil at (come_back_whatever_follows w s c.requires before since middle last words [] bs ss tt h k are))
    chunks (map entry_at c.in_ok-index.index.items) last are indexed

pub returns-in-Err-clause-err : goal.returns-in-Err-clause-err
returns-in-Err-clause-err g c =
    let w = g.Word.Natural.BITS in
    let s = g.State.Natural.BITS in
    let model : Model ℕ = record { precision = g.row.PRECISION; table = g.M.EntropyModel.table c.args.model } in
    let last : Run = run_by w s c.encode_chunks.new.encoder in
    let chunks : List (List ℕ) = lists_of c.args.chunks.now in
    let indexed : Indexes w s model chunks (map entry_at c.in_ok-index.index.items) (initial s) last = subst (λ (r : Run). Indexes w s model chunks (map entry_at c.in_ok-index.index.items) r last) c.new-encoder.ensures.run c.in_ok-index.ensures.ok in
    let refused = c.in-Err.ensures.err in
    some_chunks w s model chunks (map entry_at c.in_ok-index.index.items) last refused.owed _ _ indexed refused.is refused.not_written.0
