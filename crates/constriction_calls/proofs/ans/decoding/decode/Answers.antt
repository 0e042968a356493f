use Rattle.std.proofs.Common.{◌≡◌, ◌∙◌, ◌≤◌, arith, inr, length, refl, subst, sym}
use Rattle.constriction_stack.specs.Ans.{IsPop}
use Rattle.constriction_stack.specs.Symbols.{DecodesAll}
use Rattle.constriction_inputs.specs.Coded.{items}
use Rattle.constriction_calls.specs.AnsCalls.{ans_state_of, coder_of}
use Rattle.constriction_inputs.proofs.Asking.{fit_ok, fit_then}
use Rattle.constriction_inputs.proofs.KnownItems.{known_by}
use Rattle.constriction_calls.proofs.ans.decoding.decode.Goals as goal

pub returns : goal.returns
returns g c =
    let w = g.Word.Natural.BITS in
    let s = g.State.Natural.BITS in
    let P = g.row.PRECISION in
    let coded = g.G.Models.coded c.args.models.now in
    let numbers = g.G.Symbol.Symbol.numbers in
    let old = numbers c.args.symbols.now in
    let counts = g.G.Symbol.Symbol.count_law in
    let made = c.decode_by.ensures.decoded in
    let within : c.args.len.now ≤ length c.args.words.now = omega (arith, c.if-len-words.false) in
    let a = ans_state_of g.Word.Natural.number g.State.Natural.number (coder_of c.args.head.now c.args.words.now c.args.len.now) in
    let b = ans_state_of g.Word.Natural.number g.State.Natural.number (coder_of c.decode_by.new.head c.args.words.now c.decode_by.new.len) in
    let all : DecodesAll w s (items P (coded made.0)) a b = rw (c.in-Some.ensures.items made.0 made.1) made.3 in
    let same : (numbers c.decode_by.new.symbols) ≡ made.0 = made.2 ∙ g.met.G.DecoderModels.kept_law c.args.models.now made.0 (c.in_ok-check_for.ensures.fit made.0 made.1) (known_by (IsPop w s) (items P (coded made.0)) a b all) in
    record {
      call = record {
        taken = subst (λ ns. DecodesAll w s (items P (coded ns)) a b) (sym same) all;
        within = (refl, c.decode_by.ensures.left, counts c.decode_by.new.symbols ∙ (c.decode_by.ensures.count ∙ sym (counts c.args.symbols.now)));
        asked = inr (within, fit_then P (coded old) (fit_ok P (coded old) c.in_ok-check_for.ensures.asks) tt);
        kept = tt;
      };
    }
