use Rattle.std.proofs.Common.{◌≡◌, ◌≤◌, ◌+◌, ◌-◌, ◌/◌, ◌^◌, ◌++◌, arith, ap, sym, inr, ◌∙◌, length}
use Rattle.constriction_base.proofs.Heads.{shr_below_top}
use Rattle.constriction_symbol.specs.Bits.{bits_of}
use Rattle.constriction_symbol.proofs.WordLemmas.{filled_length}
use Rattle.constriction_words.proofs.Bits.{bits_split}
use Rattle.constriction_symbol.proofs.PutAtOnce.{first_bit}
use Rattle.constriction_symbol.proofs.steps.put_across.Goals as goal

pub returns-in-Err : goal.returns-in-Err
returns-in-Err g c =
    let n = g.Word.Natural.number c.args.bits in
    let room : g.Word.Natural.BITS - length c.args.last.now ≡ c.room-room.result = omega (arith, c.room-room.ensures) in
    let whole : c.room-room.result + (c.args.count - c.room-room.result) ≡ c.args.count = omega (arith, c.room-room.ensures, c.requires.across) in
    let full = filled_length g.Word.Natural.BITS c.args.last.now c.fill.new.self n c.room-room.result c.room-room.ensures c.fill.ensures in
    let rest = first_bit (c.args.count - c.room-room.result) (n / 2 ^ c.room-room.result) (omega (arith, c.room-room.ensures, c.requires.across)) in
    let filled : c.fill.new.self ≡ c.args.last.now ++ bits_of c.room-room.result n = rw room at c.fill.ensures in
    let has : bits_of g.Word.Natural.BITS (g.Word.Natural.number c.word.result) ≡ c.fill.new.self = ap (λ k. bits_of k (g.Word.Natural.number c.word.result)) (sym full) ∙ c.word.ensures.bits in (
      bits_of c.room-room.result n,
      rest.0,
      rest.1,
      ap (λ k. bits_of k n) (sym whole) ∙ (bits_split c.room-room.result (c.args.count - c.room-room.result) n ∙ ap (λ bs. bits_of c.room-room.result n ++ bs) rest.2),
      ap length (sym filled) ∙ full,
      filled,
      (c.word.result, has ∙ filled, (c.in-Err.ensures.kept, c.in-Err.ensures.err, c.in-Err.ensures.writes)),
    )

pub push_all-requires-clause-small : goal.push_all-requires-clause-small
push_all-requires-clause-small g c =
    let within : c.room-room.result ≤ c.args.count = omega (arith, c.room-room.ensures, c.requires.across) in
    rw c.shift_right.ensures (shr_below_top c.args.count c.room-room.result (g.Word.Natural.number c.args.bits) within c.requires.small)

pub returns : goal.returns
returns g c =
    let n = g.Word.Natural.number c.args.bits in
    let room : g.Word.Natural.BITS - length c.args.last.now ≡ c.room-room.result = omega (arith, c.room-room.ensures) in
    let whole : c.room-room.result + (c.args.count - c.room-room.result) ≡ c.args.count = omega (arith, c.room-room.ensures, c.requires.across) in
    let full = filled_length g.Word.Natural.BITS c.args.last.now c.fill.new.self n c.room-room.result c.room-room.ensures c.fill.ensures in
    let rest = first_bit (c.args.count - c.room-room.result) (n / 2 ^ c.room-room.result) (omega (arith, c.room-room.ensures, c.requires.across)) in
    let filled : c.fill.new.self ≡ c.args.last.now ++ bits_of c.room-room.result n = rw room at c.fill.ensures in
    let begun : c.push_all.new.self ≡ bits_of (c.args.count - c.room-room.result) (n / 2 ^ c.room-room.result) = rw (c.none.ensures, c.shift_right.ensures) at c.push_all.ensures in
    let has : bits_of g.Word.Natural.BITS (g.Word.Natural.number c.word.result) ≡ c.fill.new.self = ap (λ k. bits_of k (g.Word.Natural.number c.word.result)) (sym full) ∙ c.word.ensures.bits in
    inr (
      bits_of c.room-room.result n,
      rest.0,
      rest.1,
      ap (λ k. bits_of k n) (sym whole) ∙ (bits_split c.room-room.result (c.args.count - c.room-room.result) n ∙ ap (λ bs. bits_of c.room-room.result n ++ bs) rest.2),
      ap length (sym filled) ∙ full,
      omega (arith, rest.3, c.requires.part),
      begun ∙ rest.2,
      (c.word.result, has ∙ filled, (c.in-Ok.ensures.ok, c.in-Ok.ensures.room, c.in-Ok.ensures.writes)),
    )
