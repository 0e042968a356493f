use Rattle.std.proofs.Common.{◌∙◌, ℕ, List, map, ap, subst}
use Rattle.constriction_base.specs.Models.{Model}
use Rattle.constriction_store.specs.Chunks.{lists_of}
use Rattle.constriction_store.specs.Stores.{Entry, IsBuilt, entry_at}
use Rattle.constriction_calls.specs.StoreCalls.{chunks_by}
use Rattle.constriction_inputs.specs.Weights.{weights_model}
use Rattle.constriction_calls.proofs.store.building.build_store.Goals as goal

pub returns-in-Ok-build-clause-built : goal.returns-in-Ok-build-clause-built
returns-in-Ok-build-clause-built g c =
    let w = g.Word.Natural.BITS in
    let s = g.State.Natural.BITS in
    let model : Model ℕ = weights_model g.row.PRECISION (map g.P.Natural.number c.args.weights.now) in
    let store = c.in-Ok-build.store in
    let parts = c.into_parts-words.ensures.parts in
    let by_weights = subst (λ (table : List (ℕ × ℕ × ℕ)). IsBuilt w s (record { precision = g.row.PRECISION; table = table }) (lists_of c.deref.result.now) store.index store.words)
    c.in_ok-table.ensures.table c.in-Ok-build.ensures.built in
    let of_chunks = subst (λ (cs : List (List ℕ)). IsBuilt w s model cs store.index store.words) (ap (λ vs. lists_of vs) c.deref.ensures.value ∙ c.in-Ok.ensures) by_weights in
    let of_index = subst (λ (es : List Entry). IsBuilt w s model (chunks_by c.args.symbols.now c.args.lengths.now) es store.words) (ap (λ v. v.index) parts) of_chunks in
    subst (λ (ws : List ℕ). IsBuilt w s model (chunks_by c.args.symbols.now c.args.lengths.now) (map entry_at c.into_parts-words.result.1.items) ws) (ap (λ v. v.words) parts) of_index
