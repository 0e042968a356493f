use Rattle.std.proofs.Common.{◌≡◌, ◌+◌, zero, suc, get_or, ap, map, take, arith}
use Rattle.std.specs.Prelude.{sum_by}
use Rattle.std.proofs.lemmas.List.{map_push}
use Rattle.std.proofs.lemmas.List.Sums.{sum_by_more}
use Rattle.constriction_base.proofs.Sums.{sums_push}
use Rattle.std.proofs.Common.{ℕ, ◌<◌, List, [], ◌∷◌, length, refl, subst}
use Rattle.constriction_base.proofs.Results.{none_made}
use Rattle.std.proofs.lemmas.List.Sums.{sum_by-take-le}
use Rattle.constriction_base.specs.Tables.{Sums}
use Rattle.constriction_base.proofs.weights.starts.starts_of.Goals as goal

pub loop-weight-preserved : goal.loop-weight-preserved
loop-weight-preserved g c =
    let number = g.Probability.Natural.number in
    let i = c.loop-weight.invariant in
    let left : number c.plus-left.result ≡ sum_by number (take (c.loop-weight.weight-index + 1) c.args.weights.now) =
    omega (arith, i.left, c.plus-left.ensures, ap number c.weight-item.is, sum_by_more number c.args.weights.now c.loop-weight.weight-index c.weight-item.result (omega arith)) in
    record {
      left = left;
      capacity = omega (arith, c.push_reserved-in-loop-weight.ensures.capacity, i.capacity);
      counted = omega (arith, c.push_reserved-in-loop-weight.ensures.len, i.counted);
      sums = rw (c.push_reserved-in-loop-weight.ensures.items, map_push) (sums_push number c.args.weights.now (map number c.loop-weight.starts.items) c.loop-weight.weight-index (number c.plus-left.result) i.sums left);
    }

pub overflow_add-weights : goal.overflow_add-weights
overflow_add-weights g c = omega (arith, c.requires.few)

pub returns-in_err-starts : goal.returns-in_err-starts
returns-in_err-starts g c = none_made _ _ c.from_residual.ensures.0

pub push_reserved-requires : goal.push_reserved-requires
push_reserved-requires g c = omega (arith, c.in_ok-starts.ensures.len, c.in_ok-starts.ensures.exact)

-- nothing stands before the first weight
one_sum : {W : Type 0} (number : W → ℕ) (weights : List W) (first : ℕ) → first ≡ 0 → Sums number weights (first ∷ []) 1
one_sum number weights first none = record { len = refl; each = each }
  where
    each : (k : ℕ) → k < 1 → get_or (first ∷ []) k 0 ≡ sum_by number (take k weights)
    each zero below = none
    each (suc k) below = absurd (omega (arith, below))

pub loop-weight-init : goal.loop-weight-init
loop-weight-init g c =
    let number = g.Probability.Natural.number in
    record {
      left = c.nothing-left.ensures;
      capacity = omega (arith, c.push_reserved.ensures.capacity, c.in_ok-starts.ensures.exact);
      counted = omega (arith, c.push_reserved.ensures.len, c.in_ok-starts.ensures.len);
      sums = rw (c.push_reserved.ensures.items, c.in_ok-starts.ensures.items) (one_sum number c.args.weights.now (number c.nothing-left.result) c.nothing-left.ensures);
    }

pub offset_bounds-weights-weight-index : goal.offset_bounds-weights-weight-index
offset_bounds-weights-weight-index g c = omega (arith, c.loop-weight-test.true)

pub plus-left-requires : goal.plus-left-requires
plus-left-requires g c =
    let number = g.Probability.Natural.number in
    let i = c.loop-weight.invariant in
    omega (arith, i.left, ap number c.weight-item.is, sum_by_more number c.args.weights.now c.loop-weight.weight-index c.weight-item.result (omega (arith, c.loop-weight-test.true)), sum_by-take-le number c.args.weights.now (c.loop-weight.weight-index + 1), c.requires.total)

pub push_reserved-requires-in-loop-weight : goal.push_reserved-requires-in-loop-weight
push_reserved-requires-in-loop-weight g c = omega (arith, c.loop-weight.invariant.counted, c.loop-weight.invariant.capacity, c.loop-weight-test.true)

pub returns : goal.returns
returns g c =
    let number = g.Probability.Natural.number in
    let all : c.loop-weight.weight-index ≡ length c.args.weights.now = omega (arith, c.loop-weight-test.false, c.loop-weight.auto.weight-index-end) in
    subst (λ (n : ℕ). Sums number c.args.weights.now (map number c.loop-weight.starts.items) (n + 1)) all c.loop-weight.invariant.sums
