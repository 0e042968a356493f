use Rattle.std.proofs.Common.{◌≡◌, ℕ, ◌++◌, ◌∷◌, [], arith}
use Rattle.std.proofs.lemmas.Grind.{common_steps}
use Rattle.constriction_bench.specs.Starts.{HoldsQuantile}
use Rattle.constriction_bench.proofs.Starting.{listed_more}
use Rattle.constriction_bench.proofs.lookup.symbols_of.Goals as goal

pub loop-quantile-preserved : goal.loop-quantile-preserved
loop-quantile-preserved c =
    let before = c.loop-quantile.invariant in
    let symbols = c.loop-quantile.symbols.items in
    let symbol : ℕ = c.in_ok-symbol.symbol in
    let items : c.push.new.self.items ≡ symbols ++ symbol ∷ [] = grind (arith, common_steps) in
    listed_more (λ s q. HoldsQuantile c.args.starts.now c.args.count s q) symbols _ c.loop-quantile.quantile symbol before.0 before.1 items c.in_ok-symbol.ensures
