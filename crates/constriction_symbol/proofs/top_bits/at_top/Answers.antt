use Rattle.std.proofs.Common.{◌≡◌, ◌+◌, ◌-◌, ◌*◌, ◌/◌, ◌^◌, ap, subst, ◌∙◌, arith, ◌<◌}
use Rattle.std.proofs.lemmas.Nat.{shl-shr, shl_below}
use Rattle.constriction_symbol.proofs.top_bits.at_top.Goals as goal

pub shift_left-requires-clause-fits : goal.shift_left-requires-clause-fits
shift_left-requires-clause-fits g c =
    let b = g.Word.Natural.BITS in
    let n = g.Word.Natural.number c.args.word in
    let whole : c.args.count + (b - c.args.count) ≡ b = omega (arith, c.requires.within) in
    rw c.BITS.ensures (subst (λ e. n * 2 ^ (b - c.args.count) < 2 ^ e) whole (shl_below n c.args.count (b - c.args.count) c.requires.small))

pub returns : goal.returns
returns g c =
    let is = rw c.BITS.ensures at c.shift_left.ensures in
    ap (λ x. x / 2 ^ (g.Word.Natural.BITS - c.args.count)) is ∙ shl-shr (g.Word.Natural.number c.args.word) (g.Word.Natural.BITS - c.args.count)
