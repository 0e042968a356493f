use Rattle.std.proofs.Common.{◌∙◌, ◌<◌, ℕ, ℤ, pos, List, Some, get_or, ap, refl, sym, subst, arith, rules}
use Rattle.std.proofs.Common.{to_z, of_z, w64}
use Rattle.std.proofs.lemmas.Int.{to_z-of_z}
use Rattle.std.proofs.lemmas.List.Elements.{All-from_recursion}
use Rattle.constriction_base.specs.Tables.{Has}
use Rattle.constriction_models.specs.Quantized.{indexed}
use Rattle.constriction_models.specs.laws.Indexing.{indexed_has}
use Rattle.constriction_models.specs.Quantizers.{symbol_count, first_symbol}
use Rattle.constriction_inputs.specs.Quantized.{below_by}
use Rattle.constriction_inputs.proofs.FamilyTables.{interval_more, intervals_all, some_unless}
use Rattle.constriction_inputs.proofs.quantized.intervals.put_intervals.Goals as goal

pub unwrap-left-requires : goal.unwrap-left-requires
unwrap-left-requires g c =
    let i : ℕ = c.loop-i.i in
    let low = first_symbol c.args.quantizer.now in
    let count = symbol_count c.args.quantizer.now in
    let some = rw c.unwrap-distribution.ensures at c.distribution.ensures.ok in
    let table = c.quantize_indexed-model.ensures.table ∙ ap (λ (below : ℤ → ℕ). indexed g.row.PRECISION below low count) some in
    let inside : get_or c.args.symbols.now i 0 < count = All-from_recursion (λ (symbol : ℕ). symbol < count) c.args.symbols.now c.requires.places i 0 c.loop-i-test.true in
    some_unless c.left_cumulative_and_probability.result _ c.left_cumulative_and_probability.ensures.impossible
    (λ never. (rw table at never) _ _ (indexed_has g.row.PRECISION _ low count (get_or c.args.symbols.now i 0) _ _ inside refl refl))

pub loop-i-preserved : goal.loop-i-preserved
loop-i-preserved g c =
    let i : ℕ = c.loop-i.i in
    let number = g.P.Natural.number in
    let low = first_symbol c.args.quantizer.now in
    let count = symbol_count c.args.quantizer.now in
    let symbol : ℕ = get_or c.args.symbols.now i 0 in
    let location : ℤ = to_z w64 (of_z w64 (get_or c.args.locations.now i (pos 0))) in
    let some = rw c.unwrap-distribution.ensures at c.distribution.ensures.ok in
    let table = c.quantize_indexed-model.ensures.table ∙ ap (λ (below : ℤ → ℕ). indexed g.row.PRECISION below low count) some in
    let found = rw c.unwrap-left.ensures at c.left_cumulative_and_probability.ensures.found in
    let has = subst (λ (t : List (ℕ × ℕ × ℕ)). Has t symbol (number c.unwrap-left.result.0) (g.P.BitArray.nonzero_number c.unwrap-left.result.1)) table found in
    let long = subst (λ (n : ℕ). Has (indexed g.row.PRECISION (below_by (Some c.args.family) location (get_or c.args.scales.now i 0)) low count) symbol (number c.unwrap-left.result.0) n) (sym c.from_nonzero.ensures) has in
    record {
      done = interval_more number g.row.PRECISION (Some c.args.family) low count c.args.locations.now c.args.scales.now c.args.symbols.now c.requires.counted.0 c.requires.counted.1 c.loop-i.lefts c.loop-i.ps i
          location c.unwrap-left.result.0 c.from_nonzero.result c.loop-i-test.true (omega (arith, c.loop-i.invariant.lefts_counted, c.loop-i-test.true)) (omega (arith, c.loop-i.invariant.ps_counted, c.loop-i-test.true))
          (to_z-of_z w64 (get_or c.args.locations.now i (pos 0)) (search rules)) long c.loop-i.invariant.done;
      lefts_counted = search rules;
      ps_counted = search rules;
    }

pub returns : goal.returns
returns g c =
    let low = first_symbol c.args.quantizer.now in
    let count = symbol_count c.args.quantizer.now in
    intervals_all g.P.Natural.number g.row.PRECISION (Some c.args.family) low count c.args.locations.now c.args.scales.now c.args.symbols.now c.requires.counted.0 c.requires.counted.1 c.loop-i.lefts c.loop-i.ps c.loop-i.i
    (omega (arith, c.loop-i-test.false)) c.loop-i.invariant.lefts_counted c.loop-i.invariant.ps_counted c.loop-i.invariant.done
