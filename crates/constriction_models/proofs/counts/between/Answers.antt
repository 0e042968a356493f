use Rattle.std.specs.List.{sum_by}
use Rattle.std.specs.Prelude.{◌≡◌, ◌+◌, ◌<◌, ℕ, length, take, slice_index}
use Rattle.std.proofs.Common.{ap, sym, ◌∙◌, arith}
use Rattle.std.proofs.Math.Seq.{take-length}
use Rattle.std.proofs.lemmas.List.Sums.{sum_by_more}
use Rattle.constriction_models.specs.Counts.{reaches}
use Rattle.constriction_models.proofs.Sharing.{ones_fit}
use Rattle.constriction_models.proofs.Dividing.{reach_few, one_between, none_between, is_between, not_between}
use Rattle.constriction_models.proofs.counts.between.Goals.{then-reaches_one-past+in_ok-push, else-reaches_one-past}
use Rattle.constriction_models.proofs.counts.between.Goals as goal

pub overflow_add-above : goal.overflow_add-above
overflow_add-above c =
    let xs = c.args.measures.now in
    let inside : c.loop-measure.measure-index < length xs = omega arith in
    omega (arith, c.loop-measure.invariant.above, c.reaches_one-past.ensures, ones_fit (reaches c.args.high) xs c.loop-measure.measure-index (reach_few c.args.high) inside)

pub loop-measure-preserved : goal.loop-measure-preserved
loop-measure-preserved c =
    let xs = c.args.measures.now in
    let i : ℕ = c.loop-measure.measure-index in
    let near = c.loop-measure.near.items in
    let inside : i < length xs = omega arith in
    let before = c.loop-measure.invariant in
    let above : c.loop-measure.above + c.reaches_one-past.result ≡ sum_by (reaches c.args.high) (take (i + 1) xs) = omega (arith, before.above, c.reaches_one-past.ensures, sum_by_more (reaches c.args.high) xs i 0 inside) in
    elim c.if-reaches_one-past.branch [
      | then-reaches_one-past+in_ok-push w ↦ (
          let is = is_between c.args.low c.args.high (slice_index xs i) c.requires (λ same. w.if-reaches_one-past.true (c.reaches_one.ensures ∙ (same ∙ sym c.reaches_one-past.ensures))) in
          record { above = above; between = rw (w.near-is, w.in_ok-push.ensures.items) (one_between xs near c.args.low c.args.high i before.between inside is.0 is.1) })
      | else-reaches_one-past w ↦
          record { above = above; between = rw w.near-is (none_between xs near c.args.low c.args.high i before.between inside c.requires (not_between c.args.low c.args.high (slice_index xs i) (sym c.reaches_one.ensures ∙ (w.if-reaches_one-past.false ∙ c.reaches_one-past.ensures)))) }
    ]

pub returns-clause-count : goal.returns-clause-count
returns-clause-count c = c.loop-measure.invariant.between.count

pub returns-clause-parts : goal.returns-clause-parts
returns-clause-parts c =
    let xs = c.args.measures.now in
    let end : c.loop-measure.measure-index ≡ length xs = omega arith in
    let front : take c.loop-measure.measure-index xs ≡ xs = ap (λ (n : ℕ). take n xs) end ∙ take-length xs in
    let are = rw front at c.loop-measure.invariant.between in
    let above = rw front at c.loop-measure.invariant.above in
    λ least up down. omega (arith, are.parts least up down, above)
