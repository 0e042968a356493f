use Rattle.std.proofs.Common.{◌<◌, drop}
use Rattle.std.specs.List.{AllByRecursion}
use Rattle.constriction_inputs.proofs.models.families.are_below.Given as goal

abbrev pub invariant-loop-i : goal.invariant-loop-i
invariant-loop-i g l =
    let xs = g.S.Symbol.numbers l.symbols in
    record {
      before : AllByRecursion (λ symbol. symbol < l.count) (drop l.i xs) → AllByRecursion (λ symbol. symbol < l.count) xs;
      behind : AllByRecursion (λ symbol. symbol < l.count) xs → AllByRecursion (λ symbol. symbol < l.count) (drop l.i xs);
    }
