use Rattle.std.proofs.Common.{◌≡◌, ◌∙◌, ◌-◌, ◌≤◌, ℕ, List, ap, arith, length, map, rules, sym}
use Rattle.std.proofs.lemmas.List.{length-map}
use Rattle.constriction_queue.specs.Range.{QuantileInInterval, narrowed_by}
use Rattle.constriction_inputs.specs.Coded.{items}
use Rattle.constriction_inputs.proofs.Asking.{fit_ok}
use Rattle.constriction_inputs.proofs.KnownItems.{known_by}
use Rattle.constriction_calls.proofs.RangeAnswers.{takes_after, takes_fault, words_moved}
use Rattle.constriction_queue.proofs.ReadingOn.{finds_same}
use Rattle.constriction_calls.proofs.RangeSteps.{stands_on, stands_read}
use Rattle.constriction_calls.proofs.range.decoding.decode.Goals as goal

pub returns-in-Ok : goal.returns-in-Ok
returns-in-Ok g c =
    let number = g.Word.Natural.number in
    let state = g.State.Natural.number in
    let w = g.Word.Natural.BITS in
    let s = g.State.Natural.BITS in
    let P = g.row.PRECISION in
    let coded = g.G.Models.coded c.args.models.now in
    let buffer = map number c.args.words.now in
    let counts = g.G.Symbol.Symbol.count_law in
    let symbols = g.G.Symbol.Symbol.numbers c.args.symbols.now in
    let put = g.G.Symbol.Symbol.numbers c.put_numbers.new.symbols in
    let old = c.args.decoder.now in
    let new = c.decoder_parts.result in
    let d = c.in-Ok.last in
    let again = c.in-Ok.again.items in
    let size = length-map c.args.words.now number in
    let within : old.pos ≤ length buffer = omega (arith, c.if-decoder-words.false, size) in
    let fit = fit_ok P (coded symbols) c.in_ok-check_for.ensures.asks in
    let kept = c.put_numbers.ensures.numbers ∙ ap g.G.Symbol.Symbol.kept c.deref.ensures.value in
    record {
      call = takes_after state w s P coded buffer old symbols within fit (search rules) new put
          (λ words run at.
          let got = c.in-Ok.ensures.decoded words run (stands_read state w s buffer words run old c.in-Some.reading at c.in-Some.ensures.read) in
          let same : put ≡ again = kept ∙ g.met.G.DecoderModels.kept_law c.args.models.now again (c.in_ok-check_for.ensures.fit again c.in-Ok.ensures.count)
          (known_by (λ e a b. QuantileInInterval w s words e a × (b ≡ narrowed_by w s e a)) (items P (coded again)) run got.0 got.1) in (
            got.0,
            finds_same w s words (items P (coded again)) (items P (coded put)) run got.0 (ap (λ (xs : List ℕ). items P (coded xs)) (sym same)) got.1,
            stands_on state w s buffer words (items P (coded again)) run got.0 old new d at got.1 got.2 c.decoder_parts.ensures.lower c.decoder_parts.ensures.range c.decoder_parts.ensures.point
                (c.decoder_parts.ensures.pos ∙ ap (λ n. n - length d.words) (sym size)),
          ))
          (omega (arith, c.decoder_parts.ensures.pos, size)) (counts c.put_numbers.new.symbols ∙ (c.put_numbers.ensures.count ∙ sym (counts c.args.symbols.now)));
    }

pub returns-in-Err : goal.returns-in-Err
returns-in-Err g c =
    let number = g.Word.Natural.number in
    let state = g.State.Natural.number in
    let w = g.Word.Natural.BITS in
    let s = g.State.Natural.BITS in
    let P = g.row.PRECISION in
    let coded = g.G.Models.coded c.args.models.now in
    let buffer = map number c.args.words.now in
    let symbols = g.G.Symbol.Symbol.numbers c.args.symbols.now in
    let old = c.args.decoder.now in
    let within : old.pos ≤ length buffer = omega (arith, c.if-decoder-words.false, length-map c.args.words.now number) in
    let fit = fit_ok P (coded symbols) c.in_ok-check_for.ensures.asks in
    record {
      call = takes_fault state w s P coded buffer old symbols within fit (search rules) c.in-Err.refusal
          (words_moved c.in-Err.refusal
          (λ none words others run last at all count.
          none words others run last (stands_read state w s buffer words run old c.in-Some.reading at c.in-Some.ensures.read) all (count ∙ g.G.Symbol.Symbol.count_law c.args.symbols.now))
          c.in-Err.ensures.err);
    }
