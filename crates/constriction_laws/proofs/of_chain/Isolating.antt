-- Decodes by a model each, as runs.
use Rattle.std.proofs.Common.{◌≡◌, ℕ, List, [], ◌∷◌, map, refl, ap, subst}
use Rattle.constriction_base.specs.Models.{IsModel, pairs_of}
use Rattle.constriction_chain.specs.Chain.{ChainState}
use Rattle.constriction_chain.specs.Runs.{AreIsolated, Decoding, Event, IsRun, decodings}
use Rattle.constriction_chain.specs.Symbols.{ChainDecodesAll}
use Rattle.constriction_laws.specs.chain.Isolating.{decodings_by}
use Rattle.constriction_laws.proofs.of_chain.Isolated.{event_of, pairs_are, run_of}

decodings_are : {S M : Type 0} (P : ℕ) (table : M → List (S × ℕ × ℕ)) (xs : List S) (ms : List M)
    → decodings (map event_of (pairs_of P table xs ms)) ≡ decodings_by P table xs ms
decodings_are P table [] [] = refl
decodings_are P table [] (m ∷ ms) = refl
decodings_are P table (x ∷ xs) [] = refl
decodings_are {S} P table (x ∷ xs) (m ∷ ms) = ap (λ (ds : List (Decoding S)). record { precision = P; table = table m; symbol = x } ∷ ds) (decodings_are P table xs ms)

pub isolated_by : {S M L : Type 0} (w s P : ℕ) (table : M → List (S × ℕ × ℕ)) (other : L → List (S × ℕ × ℕ))
    → ((m : M) → IsModel w (record { precision = P; table = table m })) → ((m : L) → IsModel w (record { precision = P; table = other m }))
    → ((w s : ℕ) (x x' y y' : ChainState) (es es' : List (Event S)) → x.h ≡ x'.h → x.compressed ≡ x'.compressed → IsRun w s x es y → IsRun w s x' es' y' → AreIsolated (decodings es) (decodings es'))
    → (xs ys : List S) (ms : List M) (ns : List L) (x x' y y' : ChainState) → x.h ≡ x'.h → x.compressed ≡ x'.compressed
    → ChainDecodesAll w s (pairs_of P table xs ms) x y → ChainDecodesAll w s (pairs_of P other ys ns) x' y'
    → AreIsolated (decodings_by P table xs ms) (decodings_by P other ys ns)
isolated_by {S} w s P table other law also isolated xs ys ms ns x x' y y' eh ec one two =
    let all = isolated w s x x' y y' (map event_of (pairs_of P table xs ms)) (map event_of (pairs_of P other ys ns)) eh ec
    (run_of w s (pairs_of P table xs ms) x y (pairs_are w s P table law xs ms) one) (run_of w s (pairs_of P other ys ns) x' y' (pairs_are w s P other also ys ns) two) in
    subst (λ (ds : List (Decoding S)). AreIsolated ds (decodings_by P other ys ns)) (decodings_are P table xs ms)
    (subst (λ (ds : List (Decoding S)). AreIsolated (decodings (map event_of (pairs_of P table xs ms))) ds) (decodings_are P other ys ns) all)

-- ---- across a change of precision
