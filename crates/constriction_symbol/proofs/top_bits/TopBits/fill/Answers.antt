use Rattle.std.proofs.Common.{◌≡◌, ◌-◌, ◌++◌, arith, length, ap, ◌∙◌}
use Rattle.constriction_symbol.specs.Bits.{bits_of}
use Rattle.constriction_words.proofs.Bits.{bits_left}
use Rattle.constriction_symbol.proofs.top_bits.TopBits.fill.Goals as goal

pub returns-then-room-gt0 : goal.returns-then-room-gt0
returns-then-room-gt0 g c =
    let n = g.Word.Natural.number c.args.bits in
    let count : c.room-room.result ≡ g.Word.Natural.BITS - length c.args.self.now = omega (arith, c.room-room.ensures) in
    c.push_all.ensures
    ∙ ap (λ bs. c.args.self.now ++ bs) (ap (λ x. bits_of c.room-room.result x) c.low_bits.ensures ∙ (bits_left c.room-room.result n ∙ ap (λ k. bits_of k n) count))
