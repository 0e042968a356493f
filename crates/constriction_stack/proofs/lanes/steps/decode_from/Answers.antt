use Rattle.std.specs.Prelude.{◌≡◌, ℕ, ◌%◌, ◌^◌, ◌≤◌}
use Rattle.std.proofs.Common.{arith, ◌∙◌}
use Rattle.constriction_base.proofs.Entries.{in_range}
use Rattle.constriction_base.proofs.Heads.{low_in_word}
use Rattle.constriction_stack.proofs.lanes.steps.decode_from.Goals as goal

pub pop_head-popped-requires-clause-total : goal.pop_head-popped-requires-clause-total
pop_head-popped-requires-clause-total g c =
    let within = in_range _ _ _ _ _ _ (g.M.EntropyModel.lawful c.args.model.now).follow c.quantile_function-symbol.ensures.found in
    rw (c.widen-2.ensures, c.widen.ensures, c.widen-4.ensures, c.widen-3.ensures, c.from_nonzero-p.ensures) within.2

-- the quantile that is looked up
quantile_is : (w v p head q : ℕ) → p ≤ w → p ≤ v → q ≡ head % 2 ^ p % 2 ^ w % 2 ^ v → q ≡ head % 2 ^ p
quantile_is w v p head q h k e = e ∙ low_in_word head p w v h k

pub returns-clause-decoded : goal.returns-clause-decoded
returns-clause-decoded g c =
    let sized = g.met.M.EntropyModel.sized c.args.model.now in
    let quantile = quantile_is g.Word.Natural.BITS g.M.Probability.Natural.BITS g.row.PRECISION (g.State.Natural.number c.args.head) _
    (omega (arith, sized.1, g.met.M.Probability.WordOf.width_law)) sized.1 (rw (c.narrow.ensures, c.low_bits-quantile.ensures) at c.narrow-2.ensures) in
    let covers = c.quantile_function-symbol.ensures.covers in (
      _,
      _,
      c.quantile_function-symbol.ensures.found,
      (
        record { from = rw quantile at covers.0; below = rw quantile at covers.1 },
        rw (c.pop_head-popped.ensures, c.widen-2.ensures, c.widen.ensures, c.widen-4.ensures, c.widen-3.ensures, c.from_nonzero-p.ensures) at c.refill_from-new_head.ensures.state,
      ),
    )
