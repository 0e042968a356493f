use Rattle.std.proofs.Common.{◌≡◌, ◌∙◌, ◌++◌, ◌∷◌, [], ap, drop, map, sym}
use Rattle.constriction_symbol.specs.Bits.{bits_of_words}
use Rattle.constriction_symbol.proofs.BitPlaces.{off_one, one_longer}
use Rattle.constriction_calls.proofs.symbol.encoding.queue_of_first.Goals as goal

pub loop-done-preserved : goal.loop-done-preserved
loop-done-preserved g c =
    let all = bits_of_words g.Word.Natural.BITS (map g.Word.Natural.number c.args.words.now) in
    let l = c.loop-done in
    let bit = c.in-Ok-Some.bit in
    let rest = c.read_bit.new.self.bits in
    let given : drop l._done all ≡ bit ∷ rest = rw (l.invariant.left, c.in-Ok-Some.field-0-is) at (c.in-Ok-Some.ensures.1 tt) in
    record {
      copied = c.in-Ok.ensures.bits ∙ (ap (λ bs. bs ++ bit ∷ []) l.invariant.copied ∙ sym (one_longer l._done all (bit ∷ rest) given));
      left = off_one l._done all bit rest given;
    }
