use Rattle.std.proofs.Common.{ℕ, ◌-◌, ◌≤◌, ◌^◌, List, [], ◌∷◌, inl, inr, refl, sym, subst, arith}
use Rattle.constriction_base.specs.Steps.{Step, AreWords, IsSizes, IsStep}
use Rattle.constriction_base.specs.Models.{Model, IsModel}
use Rattle.constriction_queue.proofs.Seals.{words_of_numbers}
use Rattle.constriction_stack.specs.Ans.{AnsState, IsNormalized}
use Rattle.constriction_stack.specs.Symbols.{Decodes, Encodes}
use Rattle.constriction_stack.proofs.Pushing.{valid_pop}
use Rattle.constriction_laws.specs.Bounds.{Decode, Encode}
use Rattle.constriction_laws.specs.Exchanges.{HighThroughout}
use Rattle.constriction_laws.proofs.of_stack.Choosing.{step_of}
use Rattle.constriction_stack.proofs.StepCalls.{encode_of}
use Rattle.constriction_laws.proofs.of_stack.ListCalls.{decode_of, refused_decode, refused_encode}
use Rattle.constriction_laws.proofs.bounds.words.exchange.Goals as goal

pub returns-clause-net : goal.returns-clause-net
returns-clause-net g c =
    let w = g.Word.Natural.BITS in
    let s = g.State.Natural.BITS in
    let number = g.Word.Natural.number in
    let off : Model g.row.D-Symbol.Denot = record { precision = g.row.PRECISION; table = g.D.EntropyModel.table c.args.off.now } in
    let on : Model g.row.E-Symbol.Denot = record { precision = g.row.PRECISION; table = g.E.EntropyModel.table c.args.on.now } in
    let off_sized = g.met.D.EntropyModel.sized c.args.off.now in
    let on_sized = g.met.E.EntropyModel.sized c.args.on.now in
    let off_lawful : IsModel w off = record { some_bits = off_sized.0; within_word = omega (arith, off_sized.1, g.met.D.Probability.WordOf.width_law); lawful = g.D.EntropyModel.lawful c.args.off.now } in
    let on_lawful : IsModel w on = record { some_bits = on_sized.0; within_word = omega (arith, on_sized.1, g.met.E.Probability.WordOf.width_law); lawful = g.E.EntropyModel.lawful c.args.on.now } in
    let old : AnsState = c.args.coder.now.state in
    let middle : AnsState = c.decode_symbol.new.self.state in
    let new : AnsState = c.encode_symbol.new.self.state in
    let sizes : IsSizes w s = c.state.ensures.1.sizes in
    let full : 2 ^ (s - w) ≤ old.head = rw c.state.ensures.0 at c.if-is_low.ensures in
    let coder = c.state.ensures.1 in
    let valid : IsNormalized w s old = record {
      state = record {
        fits = coder.head_fits;
        are_words = subst (λ (ws : List ℕ). AreWords w ws) (sym coder.words_are) (words_of_numbers number w g.met.Word.Natural.number_law (g.Backend.Holds.words c.args.coder.now.backend));
      };
      full = inl full;
    } in
    let middle_full : 2 ^ (s - w) ≤ middle.head = rw c.state-2.ensures.0 at c.if-is_low-2.ensures in
    let taken : Decodes w s off c.in-Ok.taken old middle =
    (decode_of _ number g.Backend.Holds g.Backend.ReadWords w s off _ _ _ c.in-Ok.ensures.step).0 g.met.Backend.WriteWords.knows_words in
    let out : Step = record { precision = g.row.PRECISION; left = taken.0; p = taken.1 } in
    let out_step : IsStep w out = step_of w s off c.in-Ok.taken taken.0 taken.1 off_lawful taken.2 in
    let middle_valid : IsNormalized w s middle = subst (λ (x : AnsState). IsNormalized w s x) (sym taken.3.1) (valid_pop w s out sizes out_step old valid taken.3.0) in
    let given : Encodes w s on c.args.symbol.now middle new =
    encode_of number g.Backend.Holds g.Backend.WriteWords w s _ on _ _ _ middle_valid c.in-Ok-encode_symbol.ensures.step in
    let put : Step = record { precision = g.row.PRECISION; left = given.0; p = given.1 } in
    let put_step : IsStep w put = step_of w s on c.args.symbol.now given.0 given.1 on_lawful given.2 in (
      out,
      put,
      (taken.0, taken.1, taken.2, refl),
      (given.0, given.1, given.2, refl),
      c.stack_net_bound.ensures w s (Decode out ∷ Encode put ∷ []) old new sizes (out_step, (put_step, tt)) valid full (middle, (taken.3, middle_full), (new, given.3, refl)),
    )

pub returns-clause-done : goal.returns-clause-done
returns-clause-done g c =
    let w = g.Word.Natural.BITS in
    let s = g.State.Natural.BITS in
    let number = g.Word.Natural.number in
    let off : Model g.row.D-Symbol.Denot = record { precision = g.row.PRECISION; table = g.D.EntropyModel.table c.args.off.now } in
    let on : Model g.row.E-Symbol.Denot = record { precision = g.row.PRECISION; table = g.E.EntropyModel.table c.args.on.now } in
    let off_sized = g.met.D.EntropyModel.sized c.args.off.now in
    let off_lawful : IsModel w off = record { some_bits = off_sized.0; within_word = omega (arith, off_sized.1, g.met.D.Probability.WordOf.width_law); lawful = g.D.EntropyModel.lawful c.args.off.now } in
    let old : AnsState = c.args.coder.now.state in
    let middle : AnsState = c.decode_symbol.new.self.state in
    let sizes : IsSizes w s = c.state.ensures.1.sizes in
    let full : 2 ^ (s - w) ≤ old.head = rw c.state.ensures.0 at c.if-is_low.ensures in
    let middle_full : 2 ^ (s - w) ≤ middle.head = rw c.state-2.ensures.0 at c.if-is_low-2.ensures in
    let coder = c.state.ensures.1 in
    let valid : IsNormalized w s old = record {
      state = record {
        fits = coder.head_fits;
        are_words = subst (λ (ws : List ℕ). AreWords w ws) (sym coder.words_are) (words_of_numbers number w g.met.Word.Natural.number_law (g.Backend.Holds.words c.args.coder.now.backend));
      };
      full = inl full;
    } in
    let taken : Decodes w s off c.in-Ok.taken old middle =
    (decode_of _ number g.Backend.Holds g.Backend.ReadWords w s off _ _ _ c.in-Ok.ensures.step).0 g.met.Backend.WriteWords.knows_words in
    let out : Step = record { precision = g.row.PRECISION; left = taken.0; p = taken.1 } in
    let out_step : IsStep w out = step_of w s off c.in-Ok.taken taken.0 taken.1 off_lawful taken.2 in
    let middle_valid : IsNormalized w s middle = subst (λ (x : AnsState). IsNormalized w s x) (sym taken.3.1) (valid_pop w s out sizes out_step old valid taken.3.0) in
    let given : Encodes w s on c.args.symbol.now middle c.encode_symbol.new.self.state =
    encode_of number g.Backend.Holds g.Backend.WriteWords w s _ on _ _ _ middle_valid c.in-Ok-encode_symbol.ensures.step in
    (middle, (full, taken, middle_full), given)

pub returns-in_default-clause-err : goal.returns-in_default-clause-err
returns-in_default-clause-err g c =
    let full = rw c.state.ensures.0 at c.if-is_low.ensures in
    let kept = refused_decode g.Word.Natural.number g.Backend.Holds g.Backend.ReadWords g.Word.Natural.BITS g.State.Natural.BITS g.row.PRECISION (g.D.EntropyModel.table c.args.off.now)
    c.args.coder.now c.decode_symbol.new.self c.in_default.field-0 g.met.Backend.WriteWords.knows_words c.in_default.ensures.step in
    inl (full, kept, c.in_default.field-0, c.in_default.ensures.step)

pub returns-in-Err-Backend-clause-err : goal.returns-in-Err-Backend-clause-err
returns-in-Err-Backend-clause-err g c =
    let w = g.Word.Natural.BITS in
    let s = g.State.Natural.BITS in
    let number = g.Word.Natural.number in
    let off : Model g.row.D-Symbol.Denot = record { precision = g.row.PRECISION; table = g.D.EntropyModel.table c.args.off.now } in
    let old : AnsState = c.args.coder.now.state in
    let full : 2 ^ (s - w) ≤ old.head = rw c.state.ensures.0 at c.if-is_low.ensures in
    let middle : AnsState = c.decode_symbol.new.self.state in
    let middle_full : 2 ^ (s - w) ≤ middle.head = rw c.state-2.ensures.0 at c.if-is_low-2.ensures in
    let taken : Decodes w s off c.in-Ok.taken old middle =
    (decode_of _ number g.Backend.Holds g.Backend.ReadWords w s off _ _ _ c.in-Ok.ensures.step).0 g.met.Backend.WriteWords.knows_words in
    let step = rw c.in-Err-Backend.field-0-is at c.in-Err-Backend.ensures.step in
    let kept = refused_encode number g.Backend.Holds g.Backend.WriteWords w s _ g.row.PRECISION (g.E.EntropyModel.table c.args.on.now) c.args.symbol.now c.decode_symbol.new.self c.encode_symbol.new.self c.in-Err-Backend.field-0-0 step in
    let high = subst (λ (x : AnsState). HighThroughout w s off c.in-Ok.taken old x) (sym kept) (full, taken, middle_full) in
    inr (c.in-Ok.taken, c.decode_symbol.new.self, c.in-Err-Backend.field-0-0, high, c.in-Ok.ensures.step, step)
