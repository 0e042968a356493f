use Rattle.std.specs.Prelude.{Ok, Err}
use Rattle.std.proofs.Common.{◌≡◌, ◌+◌, ◌-◌, ◌/◌, ◌%◌, ◌^◌, mod-lt, pow_pos, arith, refl, ℕ, ◌∙◌, sym, ap₂, inl, inr}
use Rattle.constriction_base.proofs.Heads.{large_of_shr, small_of_shr}
use Rattle.constriction_base.proofs.Entering.{entry_is_step}
use Rattle.constriction_queue.specs.Range.{step_of}
use Rattle.constriction_queue.specs.Decoder.{decoder_at}
use Rattle.constriction_queue.proofs.Decoders.{is_decoder, follows_by, reads_by}
use Rattle.constriction_queue.proofs.Distances.{distance_of}
use Rattle.constriction_queue.proofs.Pointing.{low_in_word}
use Rattle.constriction_queue.proofs.decoder.symbols.RangeDecoderDecode.decode_symbol.Goals as goal

pub quantile_at-quotient-requires-clause-sized : goal.quantile_at-quotient-requires-clause-sized
quantile_at-quotient-requires-clause-sized g c = omega (arith, (g.met.M.EntropyModel.sized c.args.model).1, g.met.M.Probability.WordOf.width_law)

pub narrow_and_read-requires-clause-step : goal.narrow_and_read-requires-clause-step
narrow_and_read-requires-clause-step g c =
    rw (c.widen-left.ensures, c.widen.ensures, c.widen-p.ensures, c.widen-2.ensures, c.from_nonzero-p.ensures)
    (entry_is_step _ _ _ _ _ _ _ (g.M.EntropyModel.lawful c.args.model) c.quantile_function-symbol.ensures.found (g.met.M.EntropyModel.sized c.args.model) g.met.M.Probability.WordOf.width_law)

pub returns-then-not-is_nothing-clause-step : goal.returns-then-not-is_nothing-clause-step
returns-then-not-is_nothing-clause-step g c =
    let d = g.State.Natural.number c.self.inside.distance in
    let l = g.State.Natural.number c.self.inside.state.lower in
    let m = 2 ^ g.State.Natural.BITS in
    let read : g.State.Natural.number c.quantile_at-quotient.result ≡ ((d + l) % m + (m - l)) % m / (g.State.Natural.number c.self.inside.state.range / 2 ^ g.row.PRECISION) =
    rw (distance_of d l m (g.met.State.Natural.number_law _) (g.met.State.Natural.number_law _)) c.quantile_at-quotient.ensures in
    let large = large_of_shr _ _ (λ e. let off = c.if-not-is_nothing.ensures.1 (c.shift_right.ensures ∙ e) in cc) in
    rw (← c.self.view_is) (inl (refl, rw read at large, refl))

pub returns-then-not-is_nothing-clause-variant : goal.returns-then-not-is_nothing-clause-variant
returns-then-not-is_nothing-clause-variant g c =
    let d = g.State.Natural.number c.self.inside.distance in
    let l = g.State.Natural.number c.self.inside.state.lower in
    let m = 2 ^ g.State.Natural.BITS in
    let read : g.State.Natural.number c.quantile_at-quotient.result ≡ ((d + l) % m + (m - l)) % m / (g.State.Natural.number c.self.inside.state.range / 2 ^ g.row.PRECISION) =
    rw (distance_of d l m (g.met.State.Natural.number_law _) (g.met.State.Natural.number_law _)) c.quantile_at-quotient.ensures in
    let large = large_of_shr _ _ (λ e. let off = c.if-not-is_nothing.ensures.1 (c.shift_right.ensures ∙ e) in cc) in
    rw (← c.self.view_is) (λ _. rw read at large, λ _. refl)

pub returns-in-Ok-clause-step : goal.returns-in-Ok-clause-step
returns-in-Ok-clause-step g c =
    let d = g.State.Natural.number c.self.inside.distance in
    let l = g.State.Natural.number c.self.inside.state.lower in
    let m = 2 ^ g.State.Natural.BITS in
    let read : g.State.Natural.number c.quantile_at-quotient.result ≡ ((d + l) % m + (m - l)) % m / (g.State.Natural.number c.self.inside.state.range / 2 ^ g.row.PRECISION) =
    rw (distance_of d l m (g.met.State.Natural.number_law _) (g.met.State.Natural.number_law _)) c.quantile_at-quotient.ensures in
    let sized = g.met.M.EntropyModel.sized c.args.model in
    let small = small_of_shr _ _ (sym c.shift_right.ensures ∙ c.if-not-is_nothing.ensures.0 refl) in
    let quantile = (rw c.narrow.ensures at c.narrow-quantile.ensures) ∙ low_in_word _ _ _ _ small (omega (arith, sized.1, g.met.M.Probability.WordOf.width_law)) sized.1 ∙ read in
    let number = g.Word.Natural.number in
    let state = g.State.Natural.number in
    let w = g.Word.Natural.BITS in
    let s = g.State.Natural.BITS in
    let old = decoder_at number g.Backend.Holds s (state c.self.inside.state.lower) (state c.self.inside.state.range) (state c.self.inside.distance) c.self.inside.bulk in
    let new = decoder_at number g.Backend.Holds s (state c.in-Ok.now.lower) (state c.in-Ok.now.range) (state c.in-Ok.now.distance) c.narrow_and_read.new.bulk in
    let step = ap₂ (λ (left p : ℕ). step_of g.row.PRECISION left p) (c.widen-left.ensures ∙ c.widen.ensures) (c.widen-p.ensures ∙ c.widen-2.ensures ∙ c.from_nonzero-p.ensures) in
    let covers = c.quantile_function-symbol.ensures.covers in
    rw (← c.self.view_is, c.long-self-inside.ensures.lower, c.long-self-inside.ensures.range) (
      _,
      _,
      c.quantile_function-symbol.ensures.found,
      (
        Ok tt,
        record {
          before = is_decoder g.Word.Natural.number g.Backend.Holds _ _ _ _ _ _ c.self.invariant c.self.inside.state.wide (g.met.State.Natural.number_law _) (g.met.State.Natural.number_law _) (mod-lt _ (pow_pos g.State.Natural.BITS));
          after = is_decoder g.Word.Natural.number g.Backend.Holds _ _ _ _ _ _ c.self.invariant c.in-Ok.ensures.wide (g.met.State.Natural.number_law _) (g.met.State.Natural.number_law _) (mod-lt _ (pow_pos g.State.Natural.BITS));
          from = rw quantile at covers.0;
          below = rw quantile at covers.1;
          read = λ list. follows_by w s old new _ _ step (c.in-Ok.ensures.list list);
          by_reads = reads_by number g.Backend.ReadWords w s (state c.self.inside.state.range) old new _ _ step c.in-Ok.ensures.reads;
          lower = tt;
          range = tt;
          point = tt;
          kept = λ _. tt;
          error = tt;
        },
        refl,
      ),
    )

pub returns-in-Ok-clause-variant : goal.returns-in-Ok-clause-variant
returns-in-Ok-clause-variant g c =
    let d = g.State.Natural.number c.self.inside.distance in
    let l = g.State.Natural.number c.self.inside.state.lower in
    let m = 2 ^ g.State.Natural.BITS in
    let read : g.State.Natural.number c.quantile_at-quotient.result ≡ ((d + l) % m + (m - l)) % m / (g.State.Natural.number c.self.inside.state.range / 2 ^ g.row.PRECISION) =
    rw (distance_of d l m (g.met.State.Natural.number_law _) (g.met.State.Natural.number_law _)) c.quantile_at-quotient.ensures in
    let small = rw read at (small_of_shr _ _ (sym c.shift_right.ensures ∙ c.if-not-is_nothing.ensures.0 refl)) in
    rw (← c.self.view_is) (λ e. absurd (cc), λ h. absurd (omega arith))

pub returns-clause-step : goal.returns-clause-step
returns-clause-step g c =
    let d = g.State.Natural.number c.self.inside.distance in
    let l = g.State.Natural.number c.self.inside.state.lower in
    let m = 2 ^ g.State.Natural.BITS in
    let read : g.State.Natural.number c.quantile_at-quotient.result ≡ ((d + l) % m + (m - l)) % m / (g.State.Natural.number c.self.inside.state.range / 2 ^ g.row.PRECISION) =
    rw (distance_of d l m (g.met.State.Natural.number_law _) (g.met.State.Natural.number_law _)) c.quantile_at-quotient.ensures in
    let sized = g.met.M.EntropyModel.sized c.args.model in
    let small = small_of_shr _ _ (sym c.shift_right.ensures ∙ c.if-not-is_nothing.ensures.0 refl) in
    let quantile = (rw c.narrow.ensures at c.narrow-quantile.ensures) ∙ low_in_word _ _ _ _ small (omega (arith, sized.1, g.met.M.Probability.WordOf.width_law)) sized.1 ∙ read in
    let covers = c.quantile_function-symbol.ensures.covers in
    rw (← c.self.view_is) (inr (
      _,
      (
        _,
        _,
        c.quantile_function-symbol.ensures.found,
        (
          Err c.in-Err.error,
          record {
            before = is_decoder g.Word.Natural.number g.Backend.Holds _ _ _ _ _ _ c.self.invariant c.self.inside.state.wide (g.met.State.Natural.number_law _) (g.met.State.Natural.number_law _) (mod-lt _ (pow_pos g.State.Natural.BITS));
            after = is_decoder g.Word.Natural.number g.Backend.Holds _ _ _ _ _ _ c.self.invariant c.self.inside.state.wide (g.met.State.Natural.number_law _) (g.met.State.Natural.number_law _) (mod-lt _ (pow_pos g.State.Natural.BITS));
            from = rw quantile at covers.0;
            below = rw quantile at covers.1;
            read = tt;
            by_reads = tt;
            lower = refl;
            range = refl;
            point = refl;
            kept = λ list. rw (c.in-Err.ensures.kept list) refl;
            error = rw (c.widen-p.ensures, c.widen-2.ensures, c.from_nonzero-p.ensures) at c.in-Err.ensures.err;
          },
          refl,
        ),
      ),
    ))

pub returns-clause-variant : goal.returns-clause-variant
returns-clause-variant g c =
    let d = g.State.Natural.number c.self.inside.distance in
    let l = g.State.Natural.number c.self.inside.state.lower in
    let m = 2 ^ g.State.Natural.BITS in
    let read : g.State.Natural.number c.quantile_at-quotient.result ≡ ((d + l) % m + (m - l)) % m / (g.State.Natural.number c.self.inside.state.range / 2 ^ g.row.PRECISION) =
    rw (distance_of d l m (g.met.State.Natural.number_law _) (g.met.State.Natural.number_law _)) c.quantile_at-quotient.ensures in
    let small = rw read at (small_of_shr _ _ (sym c.shift_right.ensures ∙ c.if-not-is_nothing.ensures.0 refl)) in
    rw (← c.self.view_is) (λ e. absurd (cc), λ h. absurd (omega arith))

pub narrow_and_read-requires-clause-above : goal.narrow_and_read-requires-clause-above
narrow_and_read-requires-clause-above g c =
    let sized = g.met.M.EntropyModel.sized c.args.model in
    let small = small_of_shr _ _ (sym c.shift_right.ensures ∙ c.if-not-is_nothing.ensures.0 refl) in
    let quantile = (rw c.narrow.ensures at c.narrow-quantile.ensures) ∙ low_in_word _ _ _ _ small (omega (arith, sized.1, g.met.M.Probability.WordOf.width_law)) sized.1 ∙ c.quantile_at-quotient.ensures in
    rw (c.widen-left.ensures, c.widen.ensures) (rw quantile at c.quantile_function-symbol.ensures.covers.0)

pub narrow_and_read-requires-clause-below : goal.narrow_and_read-requires-clause-below
narrow_and_read-requires-clause-below g c =
    let sized = g.met.M.EntropyModel.sized c.args.model in
    let small = small_of_shr _ _ (sym c.shift_right.ensures ∙ c.if-not-is_nothing.ensures.0 refl) in
    let quantile = (rw c.narrow.ensures at c.narrow-quantile.ensures) ∙ low_in_word _ _ _ _ small (omega (arith, sized.1, g.met.M.Probability.WordOf.width_law)) sized.1 ∙ c.quantile_at-quotient.ensures in
    rw (c.widen-left.ensures, c.widen.ensures, c.widen-p.ensures, c.widen-2.ensures, c.from_nonzero-p.ensures) (rw quantile at c.quantile_function-symbol.ensures.covers.1)
