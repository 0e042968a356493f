use Rattle.constriction_inputs.proofs.symbols.SymbolsItems.check.Goals as goal

pub returns : goal.returns
returns g c = c.check.ensures (g.S.Symbol.numbers c.args.self.now.symbols.now) (g.S.Symbol.count_law c.args.self.now.symbols.now)
