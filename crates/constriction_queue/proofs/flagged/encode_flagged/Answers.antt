use Rattle.std.proofs.Common.{ℕ, true, false, arith, sym, ◌∙◌, ◌≤◌, length}
use Rattle.std.proofs.lemmas.List.{take_all}
use Rattle.constriction_base.specs.Models.{Model}
use Rattle.constriction_queue.specs.Flagged.{EncodesItem}
use Rattle.constriction_queue.proofs.FlaggedRuns.{coded_more, fault_at, flag_at}
use Rattle.constriction_queue.proofs.flagged.encode_flagged.Goals as goal
use Rattle.constriction_queue.proofs.flagged.encode_flagged.Goals.{then-switched+in-Ok, else-switched+in-Ok-encode_symbol}

pub returns-in-Err-clause-steps : goal.returns-in-Err-clause-steps
returns-in-Err-clause-steps g c =
    let step = EncodesItem {A = ℕ} g.Word.Natural.number g.Backend.Holds g.Backend.WriteWords g.Word.Natural.BITS g.State.Natural.BITS in
    let first : Model ℕ = record { precision = g.row.P1; table = g.M1.EntropyModel.table c.args.first.now } in
    let second : Model ℕ = record { precision = g.row.P2; table = g.M2.EntropyModel.table c.args.second.now } in
    let inv = c.loop-symbol.invariant in
    fault_at step c.args.flag first second c.args.symbols.now c.loop-symbol.symbol-index c.args.encoder.now c.loop-symbol.encoder c.encode_symbol.new.self true c.loop-symbol-test.true (sym c.if-switched.true ∙ inv.switched) inv.coded c.in-Err.refusal c.in-Err.ensures.step

pub returns-in-Err-encode_symbol-clause-steps : goal.returns-in-Err-encode_symbol-clause-steps
returns-in-Err-encode_symbol-clause-steps g c =
    let step = EncodesItem {A = ℕ} g.Word.Natural.number g.Backend.Holds g.Backend.WriteWords g.Word.Natural.BITS g.State.Natural.BITS in
    let first : Model ℕ = record { precision = g.row.P1; table = g.M1.EntropyModel.table c.args.first.now } in
    let second : Model ℕ = record { precision = g.row.P2; table = g.M2.EntropyModel.table c.args.second.now } in
    let inv = c.loop-symbol.invariant in
    fault_at step c.args.flag first second c.args.symbols.now c.loop-symbol.symbol-index c.args.encoder.now c.loop-symbol.encoder c.encode_symbol-else-switched.new.self false c.loop-symbol-test.true (sym c.if-switched.false ∙ inv.switched) inv.coded c.in-Err-encode_symbol.refusal c.in-Err-encode_symbol.ensures.step

pub loop-symbol-preserved : goal.loop-symbol-preserved
loop-symbol-preserved g c =
    let step = EncodesItem {A = ℕ} g.Word.Natural.number g.Backend.Holds g.Backend.WriteWords g.Word.Natural.BITS g.State.Natural.BITS in
    let first : Model ℕ = record { precision = g.row.P1; table = g.M1.EntropyModel.table c.args.first.now } in
    let second : Model ℕ = record { precision = g.row.P2; table = g.M2.EntropyModel.table c.args.second.now } in
    let inv = c.loop-symbol.invariant in
    elim c.if-switched.branch [
      | then-switched+in-Ok w ↦ rw (w.encoder-is, w.switched-is) (record {
        coded = coded_more step c.args.flag first second c.args.symbols.now c.loop-symbol.symbol-index c.args.encoder.now c.loop-symbol.encoder w.encode_symbol.new.self true c.loop-symbol-test.true (sym w.if-switched.true ∙ inv.switched) inv.coded w.in-Ok.ensures.step;
        switched = w.if-switched.true ∙ flag_at _ c.args.symbols.now c.loop-symbol.symbol-index true c.loop-symbol-test.true (sym w.if-switched.true ∙ inv.switched);
        left = omega (arith, inv.left, w.in-Ok.ensures.fewer_left);
      })
      | else-switched+in-Ok-encode_symbol w ↦ rw (w.encoder-is, w.switched-is) (record {
        coded = coded_more step c.args.flag first second c.args.symbols.now c.loop-symbol.symbol-index c.args.encoder.now c.loop-symbol.encoder w.encode_symbol-else-switched.new.self false c.loop-symbol-test.true (sym w.if-switched.false ∙ inv.switched) inv.coded w.in-Ok-encode_symbol.ensures.step;
        switched = flag_at _ c.args.symbols.now c.loop-symbol.symbol-index false c.loop-symbol-test.true (sym w.if-switched.false ∙ inv.switched);
        left = omega (arith, inv.left, w.in-Ok-encode_symbol.ensures.fewer_left);
      })
    ]

pub returns-clause-steps : goal.returns-clause-steps
returns-clause-steps g c =
    let past : length c.args.symbols.now ≤ c.loop-symbol.symbol-index = omega arith in
    rw take_all at c.loop-symbol.invariant.coded
