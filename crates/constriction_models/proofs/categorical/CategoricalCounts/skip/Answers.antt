use Rattle.std.proofs.Common.{◌≡◌, ◌+◌, length, arith, inl, inr}
use Rattle.std.proofs.Math.Nat.{div-mul-le_self}
use Rattle.std.proofs.lemmas.Bool.{cases_lt}
use Rattle.std.proofs.lemmas.List.Sums.{sum_by-take-le}
use Rattle.constriction_models.proofs.Searching.{block_more, not_all}
use Rattle.constriction_models.proofs.categorical.CategoricalCounts.skip.Goals as goal

pub overflow_add-next : goal.overflow_add-next
overflow_add-next g c =
    let counts = c.args.self.now.counts.now in
    let l = c.loop-block in
    let next = block_more l.first 32 c.sum_of.result l.before counts l.invariant.before c.sum_of.ensures in
    omega (arith, next, sum_by-take-le (λ x. x) counts (l.first + 32), c.args.self.now.most)

pub numerator-requires : goal.numerator-requires
numerator-requires g c =
    let counts = c.args.self.now.counts.now in
    let l = c.loop-block in
    let next = block_more l.first 32 c.sum_of.result l.before counts l.invariant.before c.sum_of.ensures in
    (omega arith, (omega (arith, l.invariant.place, c.loop-block-test.true, div-mul-le_self (length counts) 32), omega (arith, next, sum_by-take-le (λ x. x) counts (l.first + 32))))

pub loop-block-preserved : goal.loop-block-preserved
loop-block-preserved g c =
    let l = c.loop-block in
    record {
      place = omega (arith, l.invariant.place);
      before = block_more l.first 32 c.sum_of.result l.before c.args.self.now.counts.now l.invariant.before c.sum_of.ensures;
      low = omega (arith, c.numerator.ensures, c.if-numerator-limit.false);
    }

pub returns-clause-within : goal.returns-clause-within
returns-clause-within g c =
    let m = c.args.self.now in
    let counts = m.counts.now in
    let l = c.loop-block in
    elim (cases_lt l.first (length counts)) [
      | inl inside ↦ inside
      | inr past ↦ (
          let whole : l.first ≡ length counts = omega (arith, past, l.invariant.place, l.auto, div-mul-le_self (length counts) 32) in
          absurd (not_all _ m.spare c.args.limit l.first l.before counts m.shared c.requires.most whole l.invariant.before l.invariant.low))
    ]
