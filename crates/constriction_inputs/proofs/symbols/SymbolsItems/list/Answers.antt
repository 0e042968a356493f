use Rattle.std.proofs.Common.{ℕ, List, arith}
use Rattle.constriction_inputs.proofs.Pairs.{pairs_counted}
use Rattle.constriction_inputs.proofs.symbols.SymbolsItems.list.Goals as goal

pub list-requires-clause-fit : goal.list-requires-clause-fit
list-requires-clause-fit g c = (g.S.Symbol.numbers c.args.self.now.symbols.now, g.S.Symbol.count_law c.args.self.now.symbols.now, c.requires.fit)

pub returns-in-Some-clause-count : goal.returns-in-Some-clause-count
returns-in-Some-clause-count g c =
    let symbols = c.args.self.now.symbols.now in
    omega (arith, pairs_counted g.row.PRECISION (λ (t : List (ℕ × ℕ × ℕ)). t) (g.S.Symbol.numbers symbols) (g.G.List.ModelList.tables c.in-Some.models), g.S.Symbol.count_law symbols, c.in-Some.ensures.count)
