use Rattle.std.proofs.Common.{ℕ, ◌≡◌, ◌^◌, arith, subst}
use Rattle.constriction_base.specs.Tables.{Covers}
use Rattle.constriction_base.proofs.Sizes.{pow_le}
use Rattle.constriction_models.proofs.Finding.{IsCurrentRow, one_more_low, all_low}
use Rattle.constriction_models.proofs.lookup.reason_against.Goals.{then-number-end+in-Some-row_at, else-number-end}
use Rattle.constriction_models.proofs.lookup.reason_against.Goals as goal

pub plus-start-requires : goal.plus-start-requires
plus-start-requires g c =
    let before = c.loop-number.invariant in
    omega (arith, before.end, before.last, c.loop-number-test.true, c.if-number-end.true, c.from_nonzero.ensures, pow_le _ _ (g.met.M.EntropyModel.sized c.args.model.now).1)

pub loop-number-preserved : goal.loop-number-preserved
loop-number-preserved g c =
    let before = c.loop-number.invariant in
    let number = g.M.Probability.Natural.number in
    let length_of = g.M.Probability.BitArray.nonzero_number in
    let table = g.M.EntropyModel.table c.args.model.now in
    let lawful = g.M.EntropyModel.lawful c.args.model.now in
    let q : ℕ = c.loop-number.number in
    let row = c.if-number-end.row in
    let now : (symbol : ℕ) × IsCurrentRow number length_of table symbol row c.if-number-end.end q = elim c.if-number-end.branch [
      | then-number-end+in-Some-row_at w ↦ rw (w.row-is, w.end-is) (_, record { entry = w.in-Some-row_at.ensures.found; covers = subst (λ n. Covers (number w.in-Some-row_at.found.0.left) (length_of w.in-Some-row_at.found.0.weight) n) (omega (arith, w.plus-start.ensures, w.from_nonzero.ensures, w.if-number-end.true, before.end, before.before)) w.in-Some-row_at.ensures.covers; ends = w.in-Some-row_at.ensures.end; low = w.in-Some-row_at.ensures.fits })
      | else-number-end w ↦ rw (w.row-is, w.end-is) (before.entry.0, record { entry = before.entry.1; covers = (before.from, omega (arith, w.if-number-end.false, before.end)); ends = before.end; low = before.entry.2 })
    ] in
    record {
      last = before.last;
      within = omega (arith, before.last, c.loop-number-test.true);
      entry = (now.0, now.1.entry, now.1.low);
      from = omega (arith, now.1.covers.0);
      end = now.1.ends;
      before = omega (arith, now.1.covers.1, now.1.ends);
      low = one_more_low g.row.PRECISION table now.0 (number row.left) (length_of row.weight) q lawful before.low now.1.entry now.1.covers now.1.low;
    }

pub returns-clause-memory : goal.returns-clause-memory
returns-clause-memory g c = λ _.
    let made = c.loop-number.invariant in
    let all : c.loop-number.number ≡ 2 ^ g.row.PRECISION = omega (arith, made.last, made.within, c.loop-number-test.false) in
    all_low g.row.PRECISION c.loop-number.number (g.M.EntropyModel.table c.args.model.now) (g.M.EntropyModel.lawful c.args.model.now) all made.low
