use Rattle.std.proofs.Common.{◌≡◌, ◌∙◌, ◌+◌, ℕ, [], get_or, length, map, take, sym, ap, arith}
use Rattle.std.proofs.lemmas.List.{get_or-map, length-map, map_push}
use Rattle.constriction_base.specs.Models.{Model}
use Rattle.constriction_queue.specs.Encoder.{run_by}
use Rattle.constriction_queue.specs.Range.{Run}
use Rattle.constriction_store.specs.Chunks.{lists_of}
use Rattle.constriction_store.specs.Stores.{entry_at}
use Rattle.constriction_store.proofs.Counting.{counted_more, counted_le, taken_at}
use Rattle.constriction_store.proofs.Indexed.{all_known, indexed_more, map_take, moves_within}
use Rattle.constriction_store.proofs.building.encode_chunks.Goals as goal

pub pos-words-requires : goal.pos-words-requires
pos-words-requires g c =
    let w = g.Word.Natural.BITS in
    let s = g.State.Natural.BITS in
    let model : Model ℕ = record { precision = g.row.PRECISION; table = g.M.EntropyModel.table c.args.model.now } in
    let chunks = c.args.chunks.now in
    let k = c.loop-place.place in
    let most = moves_within w s model (lists_of (take k chunks)) (map entry_at c.loop-place.index.items) (run_by w s c.args.encoder.now) (run_by w s c.loop-place.encoder) c.loop-place.invariant.indexed in
    let le = counted_le chunks (λ v. v.items) k in
    let begun : (run_by w s c.args.encoder.now).moves ≡ 0 = ap (λ (r : Run). r.moves) c.requires.begun in
    omega (arith, most, le, begun, c.requires.few)

pub encode_chunk-requires : goal.encode_chunk-requires
encode_chunk-requires g c =
    let chunks = c.args.chunks.now in
    let k = c.loop-place.place in
    let x = c.index-chunks-place.result in
    let more = counted_more chunks (λ v. v.items) k x c.loop-place-test.true c.index-chunks-place.is in
    let le = counted_le chunks (λ v. v.items) (k + 1) in
    omega (arith, more, le, c.requires.few, c.loop-place.invariant.left, ap length c.as_slice.ensures.value)

pub returns-in-Err-Impossible-clause-err : goal.returns-in-Err-Impossible-clause-err
returns-in-Err-Impossible-clause-err g c =
    let w = g.Word.Natural.BITS in
    let s = g.State.Natural.BITS in
    let model : Model ℕ = record { precision = g.row.PRECISION; table = g.M.EntropyModel.table c.args.model.now } in
    let chunks = c.args.chunks.now in
    let k = c.loop-place.place in
    let x = c.index-chunks-place.result in
    let here : get_or (lists_of chunks) k [] ≡ x.items = get_or-map (λ v. v.items) chunks k x [] c.loop-place-test.true ∙ ap (λ v. v.items) (sym c.index-chunks-place.is) in
    let failed = rw (c.as_slice.ensures.value, c.in-Err-Impossible.field-0-is) at c.in-Err-Impossible.ensures.err in
    record {
      inside = omega (arith, c.loop-place-test.true, length-map chunks (λ v. v.items));
      first = rw (here, c.in-Err-Impossible.at-is) failed;
      known = rw (map_take (λ v. v.items) k chunks) (all_known w s model (lists_of (take k chunks)) (map entry_at c.loop-place.index.items) (run_by w s c.args.encoder.now) (run_by w s c.loop-place.encoder) c.loop-place.invariant.indexed);
    }

pub loop-place-preserved : goal.loop-place-preserved
loop-place-preserved g c =
    let w = g.Word.Natural.BITS in
    let s = g.State.Natural.BITS in
    let model : Model ℕ = record { precision = g.row.PRECISION; table = g.M.EntropyModel.table c.args.model.now } in
    let chunks = c.args.chunks.now in
    let k = c.loop-place.place in
    let x = c.index-chunks-place.result in
    let more = counted_more chunks (λ v. v.items) k x c.loop-place-test.true c.index-chunks-place.is in
    let position = c.pos-words.ensures.0 in
    let coded = rw c.as_slice.ensures.value at c.in-Ok-encode_chunk.ensures.ok in
    let taken = taken_at chunks k x c.loop-place-test.true c.index-chunks-place.is in
    record {
      indexed =
          rw (taken, map_push (λ v. v.items) (take k chunks) x, c.in-Ok.ensures.items, map_push entry_at c.loop-place.index.items)
          (indexed_more w s model (lists_of (take k chunks)) (map entry_at c.loop-place.index.items) x.items _ (run_by w s c.args.encoder.now) (run_by w s c.loop-place.encoder) (run_by w s c.encode_chunk.new.encoder)
          c.loop-place.invariant.indexed position (omega (arith, c.len.ensures, x.ok.0)) coded);
      left = omega (arith, more, c.loop-place.invariant.left, c.in-Ok-encode_chunk.ensures.fewer_left, ap length c.as_slice.ensures.value);
    }

pub returns-in-Err-clause-err : goal.returns-in-Err-clause-err
returns-in-Err-clause-err g c =
    let chunks = c.args.chunks.now in
    omega (arith, c.loop-place-test.true, length-map chunks (λ v. v.items))

pub returns-in-Err-Memory-clause-err : goal.returns-in-Err-Memory-clause-err
returns-in-Err-Memory-clause-err g c =
    let chunks = c.args.chunks.now in
    omega (arith, c.loop-place-test.true, length-map chunks (λ v. v.items))
