use Rattle.std.proofs.Common.{ℕ, List, arith}
use Rattle.constriction_inputs.proofs.Pairs.{pairs_counted}
use Rattle.constriction_inputs.proofs.symbols.SymbolListItemList.count.Goals as goal

pub returns : goal.returns
returns g c =
    let list = c.args.self.now in
    omega (arith, pairs_counted g.row.PRECISION (λ (t : List (ℕ × ℕ × ℕ)). t) (g.S.Symbol.numbers list.symbols.now) (g.L.ModelList.tables list.models), g.S.Symbol.count_law list.symbols.now, c.count.ensures)
