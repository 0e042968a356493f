use Rattle.std.proofs.Common.{Some, inr, refl}
use Rattle.constriction_symbol.specs.Golomb.{golomb}
use Rattle.constriction_calls.proofs.SymbolLists.{all_have}
use Rattle.constriction_calls.proofs.symbol.golomb.ExpGolombCodes.encode_refusal.Goals as goal

pub returns : goal.returns
returns g c = inr (tt, inr (all_have (λ s. Some (golomb (g.N.Natural.number s))) c.args._symbols.now (λ k d inside. (_, refl)), tt))
