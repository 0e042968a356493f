use Rattle.std.specs.Prelude.{◌≡◌, ℕ, ◌%◌, ◌^◌, ◌≤◌, Ok, Err}
use Rattle.std.proofs.Common.{arith, ◌∙◌, ap, sym, refl, inr, ◌+◌, ◌-◌}
use Rattle.std.proofs.Math.Pow.{mod-mod-pow}
use Rattle.constriction_base.proofs.Entries.{in_range}
use Rattle.constriction_stack.proofs.Coders.{is_coder}
use Rattle.constriction_base.proofs.Heads.{low_in_word}
use Rattle.constriction_stack.proofs.coder.symbols.AnsCoderDecode.decode_symbol.Goals as goal

pub pop_head-head-requires-clause-total : goal.pop_head-head-requires-clause-total
pop_head-head-requires-clause-total g c =
    let within = in_range _ _ _ _ _ _ (g.M.EntropyModel.lawful c.args.model).follow c.quantile_function-symbol.ensures.found in
    rw (c.widen-3.ensures, c.widen-2.ensures, c.widen-5.ensures, c.widen-4.ensures, c.from_nonzero-p.ensures) within.2

-- the low bits of the head lie in its low word
low_bits_are : (w p low head q : ℕ) → p ≤ w → low ≡ head % 2 ^ w → q ≡ low % 2 ^ p → q ≡ head % 2 ^ p
low_bits_are w p low head q h is e =
    let whole : w ≡ w - p + p = omega (arith, h) in
    e ∙ ap (λ n. n % 2 ^ p) is ∙ ap (λ n. head % 2 ^ n % 2 ^ p) whole ∙ mod-mod-pow head (w - p) p

pub pop_head-head-requires-clause-quantile : goal.pop_head-head-requires-clause-quantile
pop_head-head-requires-clause-quantile g c =
    let sized = g.met.M.EntropyModel.sized c.args.model in
    low_bits_are g.Word.Natural.BITS g.row.PRECISION (g.Word.Natural.number c.self.inside.low) (g.State.Natural.number c.self.inside.state) _
    (omega (arith, sized.1, g.met.M.Probability.WordOf.width_law)) c.self.inside.low_word (rw c.widen.ensures at c.low_bits-quantile.ensures)

-- the quantile that is looked up
quantile_is : (w v p low head q : ℕ) → p ≤ w → p ≤ v → low ≡ head % 2 ^ w → q ≡ low % 2 ^ p % 2 ^ w % 2 ^ v → q ≡ head % 2 ^ p
quantile_is w v p low head q h k is e = low_bits_are w p low head q h is (e ∙ low_in_word low p w v h k)

pub returns-in-Ok : goal.returns-in-Ok
returns-in-Ok g c =
    let sized = g.met.M.EntropyModel.sized c.args.model in
    let quantile = quantile_is g.Word.Natural.BITS g.M.Probability.Natural.BITS g.row.PRECISION (g.Word.Natural.number c.self.inside.low) (g.State.Natural.number c.self.inside.state) _
    (omega (arith, sized.1, g.met.M.Probability.WordOf.width_law)) sized.1 c.self.inside.low_word (rw (c.narrow.ensures, c.low_bits-quantile.ensures, c.widen.ensures) at c.narrow-2.ensures) in
    let covers = c.quantile_function-symbol.ensures.covers in
    record {
      step = rw (← c.self.view_is) (
        _,
        _,
        c.quantile_function-symbol.ensures.found,
        (
          Ok tt,
          record {
            before = is_coder _ _ _ _ _ _ c.self.invariant (g.met.State.Natural.number_law _);
            after = is_coder _ _ _ _ _ _ c.self.invariant (g.met.State.Natural.number_law _);
            is_next = record { from = rw quantile at covers.0; below = rw quantile at covers.1 };
            popped = λ list. sym (rw (c.pop_head-head.ensures, c.widen-3.ensures, c.widen-2.ensures, c.widen-5.ensures, c.widen-4.ensures, c.from_nonzero-p.ensures) at c.in-Ok.ensures.list list);
            refilled = rw (c.pop_head-head.ensures, c.widen-3.ensures, c.widen-2.ensures, c.widen-5.ensures, c.widen-4.ensures, c.from_nonzero-p.ensures) at c.in-Ok.ensures.reads;
            head = tt;
            kept = tt;
            error = tt;
          },
          refl,
        ),
      );
    }

pub returns : goal.returns
returns g c =
    let sized = g.met.M.EntropyModel.sized c.args.model in
    let quantile = quantile_is g.Word.Natural.BITS g.M.Probability.Natural.BITS g.row.PRECISION (g.Word.Natural.number c.self.inside.low) (g.State.Natural.number c.self.inside.state) _
    (omega (arith, sized.1, g.met.M.Probability.WordOf.width_law)) sized.1 c.self.inside.low_word (rw (c.narrow.ensures, c.low_bits-quantile.ensures, c.widen.ensures) at c.narrow-2.ensures) in
    let covers = c.quantile_function-symbol.ensures.covers in
    record {
      step = rw (← c.self.view_is) (inr (
        _,
        (
          _,
          _,
          c.quantile_function-symbol.ensures.found,
          (
            Err c.in-Err.error,
            record {
              before = is_coder _ _ _ _ _ _ c.self.invariant (g.met.State.Natural.number_law _);
              after = is_coder _ _ _ _ _ _ c.self.invariant (g.met.State.Natural.number_law _);
              is_next = record { from = rw quantile at covers.0; below = rw quantile at covers.1 };
              popped = tt;
              refilled = tt;
              head = refl;
              kept = λ list. rw (c.in-Err.ensures.list list) refl;
              error = rw (c.pop_head-head.ensures, c.widen-3.ensures, c.widen-2.ensures, c.widen-5.ensures, c.widen-4.ensures, c.from_nonzero-p.ensures) at c.in-Err.ensures.reads;
            },
            refl,
          ),
        ),
      ));
    }
