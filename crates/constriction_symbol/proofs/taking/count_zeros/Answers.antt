use Rattle.std.proofs.Common.{◌≡◌, ◌≤◌, ◌++◌, ◌∷◌, [], List, Bool, ℕ, arith, true, false, replicate, ap, ◌∙◌, append-nil}
use Rattle.constriction_symbol.proofs.BitsGiven.{gives_then, stops_then, zeros_push}
use Rattle.constriction_symbol.proofs.taking.count_zeros.Goals as goal

pub returns-in-Ok-true-clause-zeros : goal.returns-in-Ok-true-clause-zeros
returns-in-Ok-true-clause-zeros g c =
    (omega (arith, c.loop-count-test.true), gives_then g.I.Iterator.next_gives c.args.source.now c.loop-count.source c.next_bit.new.source (replicate c.loop-count.count false) (true ∷ []) c.loop-count.invariant.taken (rw c.in-Ok-true.field-0-test at c.in-Ok-true.ensures.bit))

pub returns-in-Err-clause-stops : goal.returns-in-Err-clause-stops
returns-in-Err-clause-stops g c =
    let all : List Bool → Type 0 = λ bits. (count : ℕ) × (count ≤ c.args.most) × (bits ≡ replicate count false) in
    stops_then g.I.Iterator.next_gives (λ bits. bits ≡ []) all c.args.source.now c.loop-count.source c.next_bit.new.source (replicate c.loop-count.count false) c.in-Err.error c.loop-count.invariant.taken
    (λ ys none. (c.loop-count.count, omega (arith, c.loop-count-test.true), ap (λ bs. replicate c.loop-count.count false ++ bs) none ∙ append-nil (replicate c.loop-count.count false)))
    c.in-Err.ensures.stops

pub loop-count-preserved : goal.loop-count-preserved
loop-count-preserved g c = record {
  can = c.in-Ok-false.ensures.can;
  finite = λ ends. c.in-Ok-false.ensures.finite (c.loop-count.invariant.finite ends);
  within = omega (arith, c.loop-count-test.true);
  taken =
      rw zeros_push
      (gives_then g.I.Iterator.next_gives c.args.source.now c.loop-count.source c.next_bit.new.source (replicate c.loop-count.count false) (false ∷ []) c.loop-count.invariant.taken (rw c.in-Ok-false.field-0-test at c.in-Ok-false.ensures.bit));
}
