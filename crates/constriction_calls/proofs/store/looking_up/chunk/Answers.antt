use Rattle.std.proofs.Common.{◌≡◌, ◌∙◌, ◌-◌, ◌^◌, ◌≤◌, ℕ, List, length, map, refl, sym, ap, ap₂, subst, arith, rules}
use Rattle.std.proofs.lemmas.List.{length-map}
use Rattle.constriction_base.specs.Models.{items_of}
use Rattle.constriction_queue.specs.Symbols.{FindsAll}
use Rattle.constriction_queue.specs.Range.{Run}
use Rattle.constriction_queue.specs.States.{lower_of, range_of}
use Rattle.constriction_store.specs.Stores.{run_from}
use Rattle.constriction_inputs.specs.Weights.{weights_model}
use Rattle.constriction_calls.proofs.RangeAnswers.{words_moved}
use Rattle.constriction_calls.proofs.StoreAnswers.{chunk_given, look_up_refused}
use Rattle.constriction_calls.proofs.store.looking_up.chunk.Goals as goal

pub returns-in-Ok-decode_count : goal.returns-in-Ok-decode_count
returns-in-Ok-decode_count g c =
    let number = g.Word.Natural.number in
    let state = g.State.Natural.number in
    let w = g.Word.Natural.BITS in
    let s = g.State.Natural.BITS in
    let weights = map g.P.Natural.number c.args.weights.now in
    let words = map number c.args.words.now in
    let least : 2 ^ (s - w) ≤ state c.args.range = search rules in
    let there : Run = run_from c.args.pos (lower_of c.in-Ok.state) (range_of c.in-Ok.state) in
    let there_is : there ≡ run_from c.args.pos (state c.args.lower) (state c.args.range) = ap₂ (λ (l r : ℕ). run_from c.args.pos l r) c.in-Ok.ensures.lower c.in-Ok.ensures.range in
    let got = c.in-Ok-decode_count.ensures.decoded words there c.decoder_at-decoder.ensures.decoder in
    let found = subst (λ (r : Run). FindsAll w s words (items_of (weights_model g.row.PRECISION weights) c.in-Ok-decode_count.again.items) r got.0) there_is got.1 in
    let same = c.copy_from_slice.ensures.after ∙ c.deref.ensures.value in
    record {
      call = chunk_given state w s g.row.PRECISION weights words c.args.pos c.args.lower c.args.range c.args.symbols.now
          (omega (arith, c.if-pos-words.false, length-map c.args.words.now number)) (search rules) least c.copy_from_slice.new.self (
            ap length same ∙ c.in-Ok-decode_count.ensures.count,
            (got.0, subst (λ (xs : List ℕ). FindsAll w s words (items_of (weights_model g.row.PRECISION weights) xs) (run_from c.args.pos (state c.args.lower) (state c.args.range)) got.0) (sym same) found),
          );
    }

pub returns-in-Err : goal.returns-in-Err
returns-in-Err g c =
    let number = g.Word.Natural.number in
    let state = g.State.Natural.number in
    let w = g.Word.Natural.BITS in
    let s = g.State.Natural.BITS in
    let weights = map g.P.Natural.number c.args.weights.now in
    let words = map number c.args.words.now in
    let least : 2 ^ (s - w) ≤ state c.args.range = search rules in
    let there : Run = run_from c.args.pos (lower_of c.in-Ok.state) (range_of c.in-Ok.state) in
    let there_is : there ≡ run_from c.args.pos (state c.args.lower) (state c.args.range) = ap₂ (λ (l r : ℕ). run_from c.args.pos l r) c.in-Ok.ensures.lower c.in-Ok.ensures.range in
    record {
      call = look_up_refused state w s g.row.PRECISION weights words c.args.pos c.args.lower c.args.range c.args.symbols.now
          (omega (arith, c.if-pos-words.false, length-map c.args.words.now number)) (search rules) least c.in-Err.refusal (words_moved c.in-Err.refusal
          (λ none symbols held.
          let all = subst (λ (r : Run). FindsAll w s words (items_of (weights_model g.row.PRECISION weights) symbols) r held.1.0) (sym there_is) held.1.1 in
          none words symbols there held.1.0 c.decoder_at-decoder.ensures.decoder all held.0)
          c.in-Err.ensures.err) _ refl;
    }
