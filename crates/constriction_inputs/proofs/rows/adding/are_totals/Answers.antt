use Rattle.std.proofs.Common.{◌≡◌, suc, ◌+◌, ◌-◌, true, take, drop, map, arith, rules}
use Rattle.constriction_inputs.specs.Weights.{IsTotal}
use Rattle.constriction_inputs.proofs.RowTables.{rest_behind, row_numbers, totals_split, totals_joined, not_all}
use Rattle.constriction_inputs.proofs.rows.adding.are_totals.Goals as goal

pub returns-then-not-is_total : goal.returns-then-not-is_total
returns-then-not-is_total g c =
    let number = g.P.Natural.number in
    let l = c.loop-done in
    let more : c.args.count - l._done ≡ suc (c.args.count - (l._done + 1)) = omega (arith, c.loop-done-test.true) in
    not_all c.is_total.result _ _ c.is_total.ensures (search rules)
    (λ every. rw (row_numbers number c.args.weights.now l.start c.args.width)
    (totals_split g.row.PRECISION c.args.width _ _ l.start (map number c.args.weights.now) more (l.invariant.behind every)).0)

pub loop-done-preserved : goal.loop-done-preserved
loop-done-preserved g c =
    let number = g.P.Natural.number in
    let l = c.loop-done in
    let all = map number c.args.weights.now in
    let next = c.args.count - (l._done + 1) in
    let more : c.args.count - l._done ≡ suc next = omega (arith, c.loop-done-test.true) in
    let yes : c.is_total.result ≡ true = search rules in
    let total : IsTotal g.row.PRECISION (take c.args.width (drop l.start all)) = rw (← row_numbers number c.args.weights.now l.start c.args.width) (c.is_total.ensures.0 yes) in
    record {
      rest = rest_behind l.start c.args.width _ next _ l.invariant.rest more;
      before = λ others. l.invariant.before (totals_joined g.row.PRECISION c.args.width _ next l.start all more total others);
      behind = λ every. (totals_split g.row.PRECISION c.args.width _ next l.start all more (l.invariant.behind every)).1;
    }
