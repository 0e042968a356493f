use Rattle.std.specs.Prelude.{Ok}
use Rattle.std.specs.Vec.Iter.{into_iter_items}
use Rattle.std.proofs.Common.{◌≡◌, ℕ, refl}
use Rattle.std.proofs.lemmas.Iterator.Adapters.{YieldsList-from_skip, YieldsList-from_vec, fact_from_collect}
use Rattle.constriction_commands.proofs.cli.arguments.Goals as goal

-- what is collected is what the vector's items are behind the first
pub returns-in_ok-collect-in-Ok-clause-behind_name : goal.returns-in_ok-collect-in-Ok-clause-behind_name
returns-in_ok-collect-in-Ok-clause-behind_name c =
    let source = YieldsList-from_vec {s = c.skip.result.iter} (into_iter_items c.in-Ok.words) (rw c.skip.ensures.source refl) (rw c.skip.ensures.source c.in-Ok.words.rest.ok.0) in
    let yields = YieldsList-from_skip {s = c.skip.result} 1 source c.skip.ensures.count in
    let ran = c.in_ok-collect-in-Ok.ensures.ran in
    rw c.in-Ok.is (fact_from_collect {E = ℕ} (λ xs v. v.items ≡ xs) (Ok c.in_ok-collect-in-Ok.field-0) (ran.0, ran.1, ran.2.0) yields)
