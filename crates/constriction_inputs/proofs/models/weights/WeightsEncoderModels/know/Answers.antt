use Rattle.std.proofs.Common.{◌<◌, arith, length, rules}
use Rattle.std.proofs.lemmas.List.{drop_more}
use Rattle.constriction_inputs.proofs.RowTables.{not_all}
use Rattle.constriction_inputs.proofs.models.weights.WeightsEncoderModels.know.Goals as goal

pub returns-then-not-is_known : goal.returns-then-not-is_known
returns-then-not-is_known g c =
    let l = c.loop-i in
    let xs = g.S.Symbol.numbers c.args.symbols.now in
    let within : l.i < length xs = omega (arith, c.loop-i-test.true, g.S.Symbol.count_law c.args.symbols.now) in
    not_all c.is_known.result _ _ c.is_known.ensures (search rules) (λ every. rw c.number_at.ensures (rw (drop_more xs l.i 0 within) at (l.invariant.behind every)).0)
