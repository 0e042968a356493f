use Rattle.std.proofs.Common.{ℕ, List, [], ◌∷◌, refl}
use Rattle.constriction.specs.chain.Runs.{Event, Decode, Change}
use Rattle.constriction_examples.proofs.laws_of_each_coder.chain.isolated_across_a_change.Goals as goal

pub returns-clause-isolated : goal.returns-clause-isolated
returns-clause-isolated g c = λ h compressed.
    let one = c.in_ok-symbol.ensures.second in
    let two = c.in_ok-again.ensures.second in
    let later = g.M.EntropyModel.table c.args.later.now in
    let es : List (Event ℕ) = Decode (record { precision = 24; table = g.A.EntropyModel.table c.args.first.now; symbol = one.0 }) ∷ Change 16
    ∷ Decode (record { precision = 16; table = later; symbol = c.in_ok-symbol.symbol }) ∷ [] in
    let fs : List (Event ℕ) = Decode (record { precision = 24; table = g.B.EntropyModel.table c.args.other.now; symbol = two.0 }) ∷ Change 16
    ∷ Decode (record { precision = 16; table = later; symbol = c.in_ok-again.again }) ∷ [] in
    let iso = c.symbols_are_isolated.ensures 32 64 c.args.coder.state c.args.same.state one.1 two.1 es fs h compressed one.2 two.2 in
    ((iso refl).1 refl).0 refl
