use Rattle.std.proofs.Common.{◌∙◌, ◌*◌, Bool, List, ap, arith, inr, length, length-append, map, subst, sym}
use Rattle.std.proofs.lemmas.List.{length-drop, length-map}
use Rattle.std.proofs.lemmas.Result.{err_from_is_err_and}
use Rattle.constriction_symbol.specs.Bits.{bits_of_words}
use Rattle.constriction_symbol.proofs.Lengths.{length_words}
use Rattle.constriction_inputs.proofs.Asking.{asked_ok}
use Rattle.constriction_calls.specs.SymbolBits.{IsBit}
use Rattle.constriction_calls.specs.SymbolCalls.{IsCutOff, IsWrong, SymbolReadFails, codeword_in}
use Rattle.constriction_calls.proofs.SymbolReads.{none_by, taken_by}
use Rattle.constriction_calls.proofs.symbol.decoding.decode_at.Goals as goal

pub returns-in_err-read_symbols : goal.returns-in_err-read_symbols
returns-in_err-read_symbols g c =
    let words = map g.Word.Natural.number c.args.words.now in
    let bit = c.args.bit.now in
    let book = g.C.Codes.book c.args.codes.now in
    let is = subst (λ n. IsBit g.Word.Natural.BITS n bit) (sym (length-map c.args.words.now g.Word.Natural.number)) (c.is_bit.ensures.0 c.if-not-is_bit.false) in
    let made = c.in_ok-codebook in
    let code = g.C.Decoder.Codebook.codeword made.codebook in
    let cut = g.C.Decoder.DecoderCodebook.reads_on made.codebook in
    let wrong : List Bool → Type 0 = λ bs. (v : g.row.C-Wrong.Denot) × (g.C.Decoder.DecoderCodebook.is_invalid made.codebook) bs v in
    let e = c.in_err-read_symbols in
    let err = subst (λ bs. SymbolReadFails code cut wrong (length c.args.symbols.now) bs e.field-0.0) c.from-bits.ensures e.ensures.err in
    let none = none_by code (codeword_in g.C.Codes.number book) made.ensures.codewords cut wrong (IsCutOff book) (IsWrong book) made.ensures.cut (λ bs h. made.ensures.wrong bs h.0 h.1) (length c.args.symbols.now) _ e.field-0.0 err in
    let told = err_from_is_err_and c.from_residual-in_err-read_symbols.result c.from_residual-in_err-read_symbols.ensures.1 in
    rw (told.1, told.2)
    record {
      call = record {
        count = e.ensures.count;
        taken = tt;
        asked = inr (is, inr ((asked_ok made.ensures.asks).0, none));
        kept = ap (λ xs. record { symbols = xs; bit = bit }) e.ensures.kept;
      };
    }

pub overflow_add-bit : goal.overflow_add-bit
overflow_add-bit g c =
    let w = g.Word.Natural.BITS in
    let words = map g.Word.Natural.number c.args.words.now in
    let is = c.is_bit.ensures.0 c.if-not-is_bit.false in
    let all = length_words w words ∙ ap (λ n. n * w) (length-map c.args.words.now g.Word.Natural.number) in
    omega (arith, is.0, is.1, all, (c.left-before.ensures ∙ (ap length c.from-bits.ensures ∙ length-drop c.args.bit.now (bits_of_words w words))))

pub returns : goal.returns
returns g c =
    let words = map g.Word.Natural.number c.args.words.now in
    let is = subst (λ n. IsBit g.Word.Natural.BITS n c.args.bit.now) (sym (length-map c.args.words.now g.Word.Natural.number)) (c.is_bit.ensures.0 c.if-not-is_bit.false) in
    let made = c.in_ok-codebook in
    let e = c.in_ok-read_symbols in
    let rest = c.read_symbols.new.stream in
    let off = taken_by (g.C.Decoder.Codebook.codeword made.codebook) (codeword_in g.C.Codes.number (g.C.Codes.book c.args.codes.now)) made.ensures.codewords c.read_symbols.new.symbols c.from-bits.result rest e.ensures.ok in
    record {
      call = record {
        count = e.ensures.count;
        taken = (off.0, rest, off.1, sym c.from-bits.ensures ∙ off.2, omega (arith, (ap length off.2 ∙ length-append off.0 rest), c.left-before.ensures, c.left.ensures));
        asked = inr (is, inr ((asked_ok made.ensures.asks).0, tt));
        kept = tt;
      };
    }
