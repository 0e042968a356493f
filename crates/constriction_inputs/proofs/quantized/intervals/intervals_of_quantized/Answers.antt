use Rattle.std.proofs.Common.{◌≡◌, ◌∙◌, ◌<◌, ℕ, ℤ, length, arith, refl, sym, subst, inr, zip}
use Rattle.std.specs.List.{AllByRecursion}
use Rattle.std.proofs.lemmas.Slice.Zip.{length-zip}
use Rattle.constriction_base.specs.Models.{AreKnown}
use Rattle.constriction_inputs.specs.Quantized.{ByFamily, below_by, family_items, family_of, symbols_in}
use Rattle.constriction_inputs.proofs.Asking.{three_ok}
use Rattle.constriction_inputs.proofs.FamilyTables.{known_places}
use Rattle.constriction_inputs.proofs.quantized.intervals.intervals_of_quantized.Goals as goal

pub put_intervals-requires : goal.put_intervals-requires
put_intervals-requires g c =
    let f = c.args.families.now in
    let right = three_ok c.in_ok-family.ensures.asks in
    let many : length f.locations.now ≡ length c.args.symbols.now = omega (arith, c.if-families-symbols.false) in
    let known : AreKnown (family_items g.row.PRECISION (record { family = f.family; min = f.min; max = f.max; locations = f.locations.now; scales = f.scales.now }) c.args.symbols.now) = c.if-not-know.ensures.0 refl in
    let places = known_places g.row.PRECISION (λ (at : ℤ × ℕ). below_by (family_of f.family) at.0 at.1) f.min (symbols_in f.min f.max) (zip f.locations.now f.scales.now) c.args.symbols.now
    (omega (arith, length-zip f.locations.now f.scales.now, many, right.0)) known in (
      omega arith,
      (
        (many, sym right.0 ∙ many),
        (
          (omega (arith, c.if-lefts-symbols.false), omega (arith, c.if-ps-symbols.false)),
          (right.2.1, subst (λ (n : ℕ). AllByRecursion (λ (symbol : ℕ). symbol < n) c.args.symbols.now) (sym c.in_ok-family.ensures.count) places),
        ),
      ),
    )

pub returns : goal.returns
returns g c =
    let f = c.args.families.now in
    let by : ByFamily = record { family = f.family; min = f.min; max = f.max; locations = f.locations.now; scales = f.scales.now } in
    let right = three_ok c.in_ok-family.ensures.asks in
    let many : length f.locations.now ≡ length c.args.symbols.now = omega (arith, c.if-families-symbols.false) in
    let known : AreKnown (family_items g.row.PRECISION by c.args.symbols.now) = c.if-not-know.ensures.0 refl in
    let e = c.in_ok-family.ensures in
    record {
      call = record {
        intervals = rw (e.family, ← e.count, ← e.first) c.put_intervals.ensures;
        asked = inr ((omega (arith, c.if-lefts-symbols.false), omega (arith, c.if-ps-symbols.false)), inr ((many, sym right.0 ∙ many), inr (right.1, inr (right.2, inr (known, tt)))));
        kept = tt;
      };
    }
