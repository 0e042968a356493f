use Rattle.std.proofs.Common.{inl}
use Rattle.constriction_symbol.proofs.GolombLemmas.{is_greatest, golomb_greatest, greatest_reversed}
use Rattle.constriction_symbol.proofs.exp_golomb.ExpGolombEncoderCodebook.encode_symbol_suffix.Goals as goal

pub returns-else-is_below : goal.returns-else-is_below
returns-else-is_below g c =
    let last = is_greatest _ _ _ _ c.if-is_below.false c.is_below.ensures c.greatest.ensures (g.met.N.Natural.number_law c.args.symbol.now) in
    let run = rw c.BITS.ensures at c.emit_lone.ensures.emits in
    inl (rw (golomb_greatest _ _ last, greatest_reversed) run)
