use Rattle.std.proofs.Common.{◌∙◌, ap, inl, inr, length, map, refl, reverse, subst, sym, take}
use Rattle.std.proofs.lemmas.List.{reverse-reverse}
use Rattle.std.proofs.Math.Seq.{take-length}
use Rattle.constriction_symbol.specs.Bits.{HasStackWords}
use Rattle.constriction_calls.specs.SymbolCalls.{AsStack}
use Rattle.constriction_calls.proofs.SymbolLists.{end_in_zero}
use Rattle.constriction_inputs.proofs.Asking.{asked_ok}
use Rattle.constriction_calls.proofs.SymbolReads.{filled}
use Rattle.constriction_calls.proofs.symbol.decoding.decode_stack.Goals as goal

pub returns-in-Err-Frontend : goal.returns-in-Err-Frontend
returns-in-Err-Frontend g c =
    let words = c.args.words.now in
    let refused = c.from_compressed.ensures.frontend c.in-Err-Frontend.field-0-0 (let is = c.in-Err-Frontend.is in let outer = c.in-Err-Frontend.field-0-is in cc) in
    let all = ap (λ ws. reverse ws) (sym (take-length words)) ∙ (sym (ap (λ q. reverse (take q.pos q.buf.now)) c.new_at_write_end.ensures) ∙ refused.3 tt) in
    record {
      call = record {
        count = refl;
        taken = tt;
        asked = inr ((asked_ok c.in_ok-codebook.ensures.asks).0, inr (inl (refl, end_in_zero g.Word.Natural.number words refused.0 _ all refused.1)));
        kept = refl;
      };
    }

pub returns : goal.returns
returns g c =
    let w = g.Word.Natural.BITS in
    let number = g.Word.Natural.number in
    let words = c.args.words.now in
    let bits = c.in-Ok.decoder.bits in
    let place = ap (λ q. map number (reverse (reverse (take q.pos q.buf.now)))) c.new_at_write_end.ensures in
    let all = place ∙ ap (λ ws. map number ws) (reverse-reverse (take (length words) words) ∙ take-length words) in
    let opened = subst (λ ws. HasStackWords w bits ws) all (c.in-Ok.ensures.ok tt) in
    let given = subst (λ bs. HasStackWords w bs (map number words)) (sym (reverse-reverse bits)) opened in
    let made = c.in_ok-codebook in
    let read = c.read_symbols.ensures in
    record {
      call = filled g.C.Codes.number w AsStack (g.C.Codes.book c.args.codes.now) (map number words) c.args.symbols.now (asked_ok made.ensures.asks).0
          (g.C.Decoder.Codebook.codeword made.codebook) made.ensures.codewords (g.C.Decoder.DecoderCodebook.reads_on made.codebook) made.ensures.cut (g.C.Decoder.DecoderCodebook.is_invalid made.codebook) made.ensures.wrong
          (reverse bits) given (reverse c.read_symbols.new.stream.bits) c.read_symbols.new.symbols c.read_symbols.result read.count read.ok read.err read.kept;
    }
