use Rattle.std.proofs.Common.{◌≡◌, ℕ, ◌++◌, ◌∷◌, [], arith}
use Rattle.std.proofs.lemmas.Grind.{common_steps}
use Rattle.constriction_bench.specs.Starts.{BeginsBefore}
use Rattle.constriction_bench.proofs.Starting.{listed_more}
use Rattle.constriction_bench.proofs.bucket.firsts_of.Goals as goal

pub loop-part-preserved : goal.loop-part-preserved
loop-part-preserved c =
    let before = c.loop-part.invariant in
    let firsts = c.loop-part.firsts.items in
    let symbol : ℕ = c.in_ok-symbol.symbol in
    let items : c.push.new.self.items ≡ firsts ++ symbol ∷ [] = grind (arith, common_steps) in
    listed_more (λ s part. BeginsBefore c.args.starts.now c.args.count s part) firsts _ c.loop-part.part symbol before.0 before.1 items c.in_ok-symbol.ensures
