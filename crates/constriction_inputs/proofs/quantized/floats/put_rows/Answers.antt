use Rattle.std.proofs.Common.{◌≡◌, ◌∙◌, ◌+◌, ◌-◌, ◌≤◌, ◌++◌, ℕ, List, drop, length, ap, arith, rules}
use Rattle.std.proofs.lemmas.List.{length-take-le, length-drop}
use Rattle.std.proofs.lemmas.Slice.{take-put_mid}
use Rattle.constriction_inputs.specs.Floats.{counts_of_rows}
use Rattle.constriction_inputs.proofs.FloatCounts.{rows_more}
use Rattle.constriction_inputs.proofs.MixtureTables.{row_between, row_ends}
use Rattle.constriction_inputs.proofs.quantized.floats.put_rows.Goals as goal

pub loop-done-preserved : goal.loop-done-preserved
loop-done-preserved g c =
    let l = c.loop-done in
    let width : ℕ = c.args.width in
    let ends = row_ends width l._done c.args.count (omega arith) in
    let within : l.start + width ≤ length l.counts = omega (arith, ends, l.invariant.begins, l.invariant.same, c.requires.counted) in
    let row = row_between width l._done l.start c.args.floats.now l.invariant.begins in
    let written : length c.put_row.new.counts ≡ width = omega (arith, c.put_row.auto.counts, length-take-le (l.start + width - l.start) (drop l.start l.counts) (omega (arith, within, length-drop l.start l.counts))) in
    record {
      begins = omega (arith, l.invariant.begins);
      done = take-put_mid l.start (l.start + width - l.start) l.counts c.put_row.new.counts (l.start + width) (omega (arith, written)) (omega (arith, within))
          ∙ ap (λ (xs : List ℕ). xs ++ c.put_row.new.counts) l.invariant.done ∙ ap (λ (xs : List ℕ). counts_of_rows width l._done c.args.floats.now ++ xs) c.put_row.ensures
          ∙ rows_more width l._done c.args.floats.now _ row;
      same = search rules;
    }
