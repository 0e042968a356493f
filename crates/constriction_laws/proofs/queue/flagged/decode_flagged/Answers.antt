use Rattle.std.proofs.Common.{Ok, Err, ◌∙◌, ◌==◌, ◌||◌, ℕ, Bool, pow_pos, [], ◌∷◌, ◌++◌, length, length-append, refl, sym, ap, ap₂, subst, arith}
use Rattle.constriction_base.specs.Models.{Model, IsModel}
use Rattle.constriction_queue.specs.Flagged.{DecodesUnder, NoSymbolFrom, has_flag, next_model}
use Rattle.constriction_queue.specs.declared.decoder.symbols.DecoderFrontendError.{DecoderFrontendError}
use Rattle.constriction_queue.specs.Symbols.{Finds}
use Rattle.constriction_laws.proofs.of_queue.Flagging.{behind_next, decodes_behind, finds_behind, next_lawful, none_behind, only_invalid, or_none, stands_still, switched_more, taken_none}
use Rattle.constriction_queue.proofs.StepCalls.{decode_of, found_quantile}
use Rattle.constriction_laws.proofs.queue.flagged.decode_flagged.Goals as goal

pub loop-init : goal.loop-init
loop-init g c =
    let first : Model ℕ = record { precision = g.row.P1; table = g.M1.EntropyModel.table c.args.first.now } in
    let second : Model ℕ = record { precision = g.row.P2; table = g.M2.EntropyModel.table c.args.second.now } in
    record {
      count = rw c.new-symbols.ensures.items refl;
      flag = refl;
      switched = rw c.new-symbols.ensures.items (sym (or_none c.args.switch.now.switched));
      taken = rw c.new-symbols.ensures.items (taken_none g.Word.Natural.number g.Backend.Holds g.Backend.ReadWords g.Word.Natural.BITS g.State.Natural.BITS c.args.switch.now.flag first second c.args.switch.now.switched c.args.switch.now.decoder);
      read = λ known words old at. (old, rw c.new-symbols.ensures.items (none_behind g.Word.Natural.BITS g.State.Natural.BITS words c.args.switch.now.flag first second c.args.switch.now.switched old), at);
    }

pub loop-preserved : goal.loop-preserved
loop-preserved g c =
    let w = g.Word.Natural.BITS in
    let s = g.State.Natural.BITS in
    let first : Model ℕ = record { precision = g.row.P1; table = g.M1.EntropyModel.table c.args.first.now } in
    let second : Model ℕ = record { precision = g.row.P2; table = g.M2.EntropyModel.table c.args.second.now } in
    let inv = c.loop.invariant in
    let before = c.args.switch.now.switched in
    let flag = c.args.switch.now.flag in
    let so_far = c.loop.symbols.items in
    let symbol = c.in-Ok.symbol in
    let items = c.in-Ok-push.ensures.items in
    record {
      count = omega (arith, ap length items, length-append so_far (symbol ∷ []), inv.count);
      flag = c.in-Ok.ensures.flag ∙ inv.flag;
      switched = rw items (c.in-Ok.ensures.switched ∙ ap₂ (λ (b : Bool) (f : ℕ). b || symbol == f) inv.switched inv.flag ∙ switched_more before flag so_far symbol);
      taken = rw items (decodes_behind g.Word.Natural.number g.Backend.Holds g.Backend.ReadWords w s flag first second before so_far symbol c.args.switch.now.decoder c.loop.switch.decoder c.next_symbol.new.self.decoder inv.taken
          (subst (λ (b : Bool). DecodesUnder g.Word.Natural.number g.Backend.Holds g.Backend.ReadWords w s (next_model b first second) c.loop.switch.decoder (Ok symbol) c.next_symbol.new.self.decoder) inv.switched c.in-Ok.ensures.step));
      read = λ known words old at.
          let here = inv.read known words old at in
          let next = decode_of DecoderFrontendError g.Word.Natural.number g.Backend.Holds g.Backend.ReadWords w s words known (next_model c.loop.switch.switched first second) symbol here.0 c.loop.switch.decoder c.next_symbol.new.self.decoder here.2 c.in-Ok.ensures.step in
          let found = subst (λ (b : Bool). Finds w s words (next_model b first second) symbol here.0 next.0) inv.switched next.1 in
          (next.0, rw items (finds_behind w s flag first second words before so_far symbol old here.0 next.0 here.1 found), next.2);
    }

pub returns-in-Err-clause-err : goal.returns-in-Err-clause-err
returns-in-Err-clause-err g c = λ known words old at.
    let w = g.Word.Natural.BITS in
    let s = g.State.Natural.BITS in
    let first : Model ℕ = record { precision = g.row.P1; table = g.M1.EntropyModel.table c.args.first.now } in
    let second : Model ℕ = record { precision = g.row.P2; table = g.M2.EntropyModel.table c.args.second.now } in
    let one_sized = g.met.M1.EntropyModel.sized c.args.first.now in
    let two_sized = g.met.M2.EntropyModel.sized c.args.second.now in
    let m : IsModel w first = record { some_bits = one_sized.0; within_word = omega (arith, one_sized.1, g.met.M1.Probability.WordOf.width_law); lawful = g.M1.EntropyModel.lawful c.args.first.now } in
    let n : IsModel w second = record { some_bits = two_sized.0; within_word = omega (arith, two_sized.1, g.met.M2.Probability.WordOf.width_law); lawful = g.M2.EntropyModel.lawful c.args.second.now } in
    let inv = c.loop.invariant in
    let before = c.args.switch.now.switched in
    let flag = c.args.switch.now.flag in
    let so_far = c.loop.symbols.items in
    let decoder = c.loop.switch.decoder in
    let here = inv.read known words old at in
    only_invalid g.Word.Natural.number g.Backend.Holds g.Backend.ReadWords w s (next_model c.loop.switch.switched first second) _ decoder
    c.next_symbol.new.self.decoder c.in-Err.error c.in-Err.ensures.step (λ halt symbols last count found. (
    let next = behind_next w s words flag first second m n before so_far symbols old here.0 last (omega (arith, count, inv.count)) here.1 found in
    let b : Bool = before || has_flag flag so_far in
    let model : Model ℕ = next_model b first second in
    let quantile = found_quantile w s words model next.0 here.0 next.1 decoder (next_lawful w s words flag first second m n b) (pow_pos s) here.2 next.2 in
    let halts = subst (λ (b : Bool). NoSymbolFrom s (next_model b first second).precision decoder) inv.switched halt in
    omega (arith, halts, quantile)))

pub returns-in-Err-clause-steps : goal.returns-in-Err-clause-steps
returns-in-Err-clause-steps g c =
    let w = g.Word.Natural.BITS in
    let s = g.State.Natural.BITS in
    let first : Model ℕ = record { precision = g.row.P1; table = g.M1.EntropyModel.table c.args.first.now } in
    let second : Model ℕ = record { precision = g.row.P2; table = g.M2.EntropyModel.table c.args.second.now } in
    let inv = c.loop.invariant in
    let mid = c.loop.switch.decoder in
    let new = c.next_symbol.new.self.decoder in
    let step = c.in-Err.ensures.step in (
      c.loop.symbols.items,
      mid,
      tt,
      record {
        most = omega (arith, inv.count);
        taken = inv.taken;
        switched = c.in-Err.ensures.kept ∙ inv.switched;
        read = λ known words old at. (let here = inv.read known words old at in
            (here.0, here.1, stands_still g.Word.Natural.number g.Backend.Holds g.Backend.ReadWords w s (next_model c.loop.switch.switched first second) words here.0 mid new c.in-Err.error known step here.2));
      },
      (omega (arith, inv.count), subst (λ (b : Bool). DecodesUnder g.Word.Natural.number g.Backend.Holds g.Backend.ReadWords w s (next_model b first second) mid (Err c.in-Err.error) new) (sym c.in-Err.ensures.kept) step),
    )

pub returns-clause-steps : goal.returns-clause-steps
returns-clause-steps g c =
    let inv = c.loop.invariant in (
      c.loop.symbols.items,
      c.loop.switch.decoder,
      refl,
      record {
        most = omega (arith, inv.count);
        taken = inv.taken;
        switched = inv.switched;
        read = inv.read;
      },
      refl,
    )

pub returns-in_default-clause-steps : goal.returns-in_default-clause-steps
returns-in_default-clause-steps g c =
    let w = g.Word.Natural.BITS in
    let s = g.State.Natural.BITS in
    let first : Model ℕ = record { precision = g.row.P1; table = g.M1.EntropyModel.table c.args.first.now } in
    let second : Model ℕ = record { precision = g.row.P2; table = g.M2.EntropyModel.table c.args.second.now } in
    let inv = c.loop.invariant in
    let before = c.args.switch.now.switched in
    let flag = c.args.switch.now.flag in
    let so_far = c.loop.symbols.items in
    let symbol = c.in-Ok.symbol in
    let mid = c.loop.switch.decoder in
    let new = c.next_symbol.new.self.decoder in (
      so_far ++ symbol ∷ [],
      new,
      tt,
      record {
        most = omega (arith, length-append so_far (symbol ∷ []), inv.count);
        taken = decodes_behind g.Word.Natural.number g.Backend.Holds g.Backend.ReadWords w s flag first second before so_far symbol c.args.switch.now.decoder mid new inv.taken
            (subst (λ (b : Bool). DecodesUnder g.Word.Natural.number g.Backend.Holds g.Backend.ReadWords w s (next_model b first second) mid (Ok symbol) new) inv.switched c.in-Ok.ensures.step);
        switched = c.in-Ok.ensures.switched ∙ ap₂ (λ (b : Bool) (f : ℕ). b || symbol == f) inv.switched inv.flag ∙ switched_more before flag so_far symbol;
        read = λ known words old at.
            let here = inv.read known words old at in
            let next = decode_of DecoderFrontendError g.Word.Natural.number g.Backend.Holds g.Backend.ReadWords w s words known (next_model c.loop.switch.switched first second) symbol here.0 mid new here.2 c.in-Ok.ensures.step in
            let found = subst (λ (b : Bool). Finds w s words (next_model b first second) symbol here.0 next.0) inv.switched next.1 in
            (next.0, finds_behind w s flag first second words before so_far symbol old here.0 next.0 here.1 found, next.2);
      },
      refl,
    )
