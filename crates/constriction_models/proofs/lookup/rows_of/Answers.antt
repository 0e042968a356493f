use Rattle.std.proofs.Common.{ℕ, ◌≡◌, ◌^◌, ◌++◌, ◌∷◌, [], arith, subst}
use Rattle.std.proofs.lemmas.Grind.{common_steps}
use Rattle.constriction_base.specs.Tables.{Covers}
use Rattle.constriction_base.proofs.Sizes.{pow_le}
use Rattle.constriction_models.specs.Lookup.{AreRows}
use Rattle.constriction_models.proofs.Finding.{IsCurrentRow, one_more_row, one_more_low, row_of_entry, all_low}
use Rattle.constriction_models.proofs.lookup.rows_of.Goals.{then-quantile-end+in_ok-row-2, else-quantile-end}
use Rattle.constriction_models.proofs.lookup.rows_of.Goals as goal

pub plus-next-requires : goal.plus-next-requires
plus-next-requires g c =
    let before = c.loop-quantile.invariant in
    omega (arith, before.end, before.last, c.loop-quantile-test.true, c.if-quantile-end.true, c.from_nonzero.ensures, pow_le _ _ (g.met.M.EntropyModel.sized c.args.model.now).1)

pub loop-quantile-preserved : goal.loop-quantile-preserved
loop-quantile-preserved g c =
    let before = c.loop-quantile.invariant in
    let number = g.M.Probability.Natural.number in
    let length_of = g.M.Probability.BitArray.nonzero_number in
    let table = g.M.EntropyModel.table c.args.model.now in
    let lawful = g.M.EntropyModel.lawful c.args.model.now in
    let q : ℕ = c.loop-quantile.quantile in
    let row = c.if-quantile-end.row in
    let symbol : ℕ = c.if-quantile-end.symbol in
    let items : c.push.new.self.items ≡ c.loop-quantile.rows.items ++ row ∷ [] = grind (arith, common_steps) in
    let told : c.push-in-loop-quantile.new.self.items ≡ c.loop-quantile.symbols.items ++ symbol ∷ [] = grind (arith, common_steps) in
    let now : IsCurrentRow number length_of table symbol row c.if-quantile-end.end q = elim c.if-quantile-end.branch [
      | then-quantile-end+in_ok-row-2 w ↦ rw (w.row-is, w.symbol-is, w.end-is) (record { entry = w.in_ok-row-2.ensures.found; covers = subst (λ n. Covers (number w.in_ok-row-2.field-0-0.left) (length_of w.in_ok-row-2.field-0-0.weight) n) (omega (arith, w.plus-next.ensures, w.from_nonzero.ensures, w.if-quantile-end.true, before.end, before.before)) w.in_ok-row-2.ensures.covers; ends = w.in_ok-row-2.ensures.end; low = w.in_ok-row-2.ensures.fits })
      | else-quantile-end w ↦ rw (w.row-is, w.symbol-is, w.end-is) (record { entry = before.entry; covers = (before.from, omega (arith, w.if-quantile-end.false, before.end)); ends = before.end; low = before.small })
    ] in
    record {
      rows = one_more_row number length_of table c.loop-quantile.symbols.items c.push-in-loop-quantile.new.self.items c.loop-quantile.rows.items c.push.new.self.items q symbol row before.rows (row_of_entry number length_of g.row.PRECISION table symbol row q lawful now.entry now.covers) told items;
      last = before.last;
      within = omega (arith, before.last, c.loop-quantile-test.true);
      entry = now.entry;
      from = omega (arith, now.covers.0);
      end = now.ends;
      before = omega (arith, now.covers.1, now.ends);
      small = now.low;
      low = one_more_low g.row.PRECISION table symbol (number row.left) (length_of row.weight) q lawful before.low now.entry now.covers now.low;
    }

pub returns-clause-found : goal.returns-clause-found
returns-clause-found g c =
    let made = c.loop-quantile.invariant in
    let all : c.loop-quantile.quantile ≡ 2 ^ g.row.PRECISION = omega (arith, made.last, made.within, c.loop-quantile-test.false) in
    subst (λ (n : ℕ). AreRows g.M.Probability.Natural.number g.M.Probability.BitArray.nonzero_number (g.M.EntropyModel.table c.args.model.now) c.loop-quantile.symbols.items c.loop-quantile.rows.items n) all made.rows

pub returns-clause-fits : goal.returns-clause-fits
returns-clause-fits g c =
    let made = c.loop-quantile.invariant in
    let all : c.loop-quantile.quantile ≡ 2 ^ g.row.PRECISION = omega (arith, made.last, made.within, c.loop-quantile-test.false) in
    all_low g.row.PRECISION c.loop-quantile.quantile (g.M.EntropyModel.table c.args.model.now) (g.M.EntropyModel.lawful c.args.model.now) all made.low
