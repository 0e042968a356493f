use Rattle.constriction_queue.specs.Decoder.{StandsAt}
use Rattle.std.proofs.Common.{◌≡◌, ◌∙◌, ◌<◌, ℕ, List, length, map, sym, ap, arith}
use Rattle.std.proofs.lemmas.List.{get_or-map, length-map}
use Rattle.constriction_base.specs.Models.{Model, IsModel}
use Rattle.constriction_store.specs.Stores.{entry_at, entry_in, entry_of, run_at}
use Rattle.constriction_store.proofs.Counting.{place_at}
use Rattle.constriction_store.proofs.LookedUp.{chunk_back, chunk_err, chunk_none, chunk_ok}
use Rattle.constriction_store.proofs.Store.chunk.Goals as goal

pub decoder_at-decoder-requires-clause-inside : goal.decoder_at-decoder-requires-clause-inside
decoder_at-decoder-requires-clause-inside g c =
    let inside : c.args.i < length c.self.inside.index.items = omega (arith, c.if-i-len.false, c.len.ensures, c.self.inside.index.ok.0) in
    let place = place_at (length c.self.inside.words.items) c.self.inside.index.items entry_at c.args.i c.index.result.now inside c.index.ensures c.self.invariant.1.places in
    omega (arith, place, ap length c.as_slice.ensures.value)

pub returns-clause-ok : goal.returns-clause-ok
returns-clause-ok g c =
    let w = g.Word.Natural.BITS in
    let s = g.State.Natural.BITS in
    let items = c.self.inside.index.items in
    let x = c.index.result.now in
    let model : Model ℕ = record { precision = g.row.PRECISION; table = g.M.EntropyModel.table c.self.inside.model } in
    let inside : c.args.i < length items = omega (arith, c.if-i-len.false, c.len.ensures, c.self.inside.index.ok.0) in
    let entry : entry_in (map entry_at items) c.args.i ≡ entry_at x = get_or-map entry_at items c.args.i x (entry_of 0 0 0 0) inside ∙ ap entry_at (sym c.index.ensures) in
    let words : List ℕ = map g.Word.Natural.number c.self.inside.words.items in
    let at : StandsAt w s words (run_at (entry_at x)) c.decoder_at-decoder.result = rw c.as_slice.ensures.value at c.decoder_at-decoder.ensures.decoder in
    rw (← c.self.view_is, entry) (chunk_ok w s model words (entry_at x) c.decoder_at-decoder.result at c.decode_chunk.result c.decode_chunk.ensures.count c.decode_chunk.ensures.ok)

pub returns-clause-err : goal.returns-clause-err
returns-clause-err g c =
    let w = g.Word.Natural.BITS in
    let s = g.State.Natural.BITS in
    let items = c.self.inside.index.items in
    let x = c.index.result.now in
    let model : Model ℕ = record { precision = g.row.PRECISION; table = g.M.EntropyModel.table c.self.inside.model } in
    let inside : c.args.i < length items = omega (arith, c.if-i-len.false, c.len.ensures, c.self.inside.index.ok.0) in
    let entry : entry_in (map entry_at items) c.args.i ≡ entry_at x = get_or-map entry_at items c.args.i x (entry_of 0 0 0 0) inside ∙ ap entry_at (sym c.index.ensures) in
    let words : List ℕ = map g.Word.Natural.number c.self.inside.words.items in
    let at : StandsAt w s words (run_at (entry_at x)) c.decoder_at-decoder.result = rw c.as_slice.ensures.value at c.decoder_at-decoder.ensures.decoder in
    let within : c.args.i < length (map entry_at items) = omega (arith, inside, length-map items entry_at) in
    rw (← c.self.view_is) (chunk_err w s model words (entry_at x) c.decoder_at-decoder.result at c.decode_chunk.result (map entry_at items) c.args.i within entry c.decode_chunk.ensures.err)

pub returns-clause-none : goal.returns-clause-none
returns-clause-none g c =
    let w = g.Word.Natural.BITS in
    let s = g.State.Natural.BITS in
    let items = c.self.inside.index.items in
    let x = c.index.result.now in
    let model : Model ℕ = record { precision = g.row.PRECISION; table = g.M.EntropyModel.table c.self.inside.model } in
    let inside : c.args.i < length items = omega (arith, c.if-i-len.false, c.len.ensures, c.self.inside.index.ok.0) in
    let words : List ℕ = map g.Word.Natural.number c.self.inside.words.items in
    let at : StandsAt w s words (run_at (entry_at x)) c.decoder_at-decoder.result = rw c.as_slice.ensures.value at c.decoder_at-decoder.ensures.decoder in
    let within : c.args.i < length (map entry_at items) = omega (arith, inside, length-map items entry_at) in
    rw (← c.self.view_is) (chunk_none w s model words (entry_at x) c.decoder_at-decoder.result at c.decode_chunk.result (length (map entry_at items)) c.args.i within c.decode_chunk.ensures.err)

pub returns-clause-back : goal.returns-clause-back
returns-clause-back g c =
    let w = g.Word.Natural.BITS in
    let s = g.State.Natural.BITS in
    let items = c.self.inside.index.items in
    let x = c.index.result.now in
    let sized = g.met.M.EntropyModel.sized c.self.inside.model in
    let model : Model ℕ = record { precision = g.row.PRECISION; table = g.M.EntropyModel.table c.self.inside.model } in
    let lawful : IsModel w model = record { some_bits = sized.0; within_word = omega (arith, sized.1, g.met.M.Probability.WordOf.width_law); lawful = g.M.EntropyModel.lawful c.self.inside.model } in
    let inside : c.args.i < length items = omega (arith, c.if-i-len.false, c.len.ensures, c.self.inside.index.ok.0) in
    let entry : entry_in (map entry_at items) c.args.i ≡ entry_at x = get_or-map entry_at items c.args.i x (entry_of 0 0 0 0) inside ∙ ap entry_at (sym c.index.ensures) in
    let words : List ℕ = map g.Word.Natural.number c.self.inside.words.items in
    let at : StandsAt w s words (run_at (entry_at x)) c.decoder_at-decoder.result = rw c.as_slice.ensures.value at c.decoder_at-decoder.ensures.decoder in
    rw (← c.self.view_is, entry) (λ within symbols held. chunk_back w s model words (entry_at x) c.decoder_at-decoder.result at c.decode_chunk.result symbols lawful held c.decode_chunk.ensures.count c.decode_chunk.ensures.ok c.decode_chunk.ensures.err)
