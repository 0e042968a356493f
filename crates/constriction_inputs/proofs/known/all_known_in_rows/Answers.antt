use Rattle.std.proofs.Common.{◌≡◌, ◌<◌, suc, ◌+◌, ◌-◌, true, length, take, drop, get_or, map, arith, rules}
use Rattle.constriction_base.specs.Models.{Knows}
use Rattle.constriction_inputs.specs.Weights.{weights_model}
use Rattle.constriction_inputs.proofs.KnownRows.{known_joined, known_split}
use Rattle.constriction_inputs.proofs.RowTables.{rest_behind, row_numbers, not_all}
use Rattle.constriction_inputs.proofs.known.all_known_in_rows.Goals as goal

pub returns-then-not-is_known : goal.returns-then-not-is_known
returns-then-not-is_known g c =
    let number = g.P.Natural.number in
    let l = c.loop-i in
    let xs = g.S.Symbol.numbers c.args.symbols.now in
    let within : l.i < length xs = omega (arith, c.loop-i-test.true, g.S.Symbol.count_law c.args.symbols.now) in
    not_all c.is_known.result _ _ c.is_known.ensures (search rules)
    (λ every. rw (row_numbers number c.args.weights.now l.start c.args.width, c.number_at.ensures)
    (known_split g.row.PRECISION c.args.width l.start (map number c.args.weights.now) xs l.i within (l.invariant.behind every)).0)

pub loop-i-preserved : goal.loop-i-preserved
loop-i-preserved g c =
    let number = g.P.Natural.number in
    let l = c.loop-i in
    let all = map number c.args.weights.now in
    let given = c.args.symbols.now in
    let symbols = g.S.Symbol.numbers given in
    let next = length given - (l.i + 1) in
    let within : l.i < length symbols = omega (arith, c.loop-i-test.true, g.S.Symbol.count_law given) in
    let more : length given - l.i ≡ suc next = omega (arith, c.loop-i-test.true) in
    let yes : c.is_known.result ≡ true = search rules in
    let known : Knows (weights_model g.row.PRECISION (take c.args.width (drop l.start all))) (get_or symbols l.i 0) = rw (← row_numbers number c.args.weights.now l.start c.args.width, ← c.number_at.ensures) (c.is_known.ensures.0 yes) in
    record {
      rest = rest_behind l.start c.args.width _ next _ l.invariant.rest more;
      before = λ others. l.invariant.before (known_joined g.row.PRECISION c.args.width l.start all symbols l.i within known others);
      behind = λ every. (known_split g.row.PRECISION c.args.width l.start all symbols l.i within (l.invariant.behind every)).1;
    }
