use Rattle.std.proofs.Common.{◌/◌, ◌+◌, ap, inr, length, map}
use Rattle.std.proofs.lemmas.Result.{err_from_is_err_and}
use Rattle.constriction_inputs.proofs.Asking.{room_of}
use Rattle.constriction_calls.specs.SymbolBits.{TooShortFromBit}
use Rattle.constriction_calls.specs.SymbolCalls.{codeword_in}
use Rattle.constriction_calls.proofs.SymbolPlaces.{lacks_room}
use Rattle.constriction_calls.proofs.symbol.encoding.encode_at.Goals as goal

pub returns-in_err-append : goal.returns-in_err-append
returns-in_err-append g c =
    let w = g.Word.Natural.BITS in
    let number = g.Word.Natural.number in
    let words = c.args.words.now in
    let bit = c.args.bit.now in
    let code = codeword_in g.C.Codes.number (g.C.Codes.book c.args.codes.now) in
    let is = c.is_bit.ensures.0 c.if-not-is_bit.false in
    let made = c.in-Some.ensures.words in
    let e = c.in_err-append.ensures in
    let why = rw (c.deref.ensures.value, c.BITS.ensures) at e.err in
    let less = rw (c.deref.ensures.value, c.BITS.ensures) at e.full in
    let needs = TooShortFromBit w code c.args.symbols.now (map number words) bit in
    let room = room_of needs c.in_err-append.field-0.0 (bit / w + length c.in-Some.added.items) why (lacks_room number w bit words is.0 code c.args.symbols.now made.0 c.in-Some.added.items made.1 made.2 less) in
    let told = err_from_is_err_and c.from_residual.result c.from_residual.ensures.1 in
    rw (told.1, told.2)
    record {
      call = record {
        put = tt;
        asked = inr (is, inr (c.in-Some.ensures.tree, inr ((made.0, made.1), room)));
        kept = ap (λ ws. record { words = ws; bit = bit }) e.kept.0;
      };
    }
