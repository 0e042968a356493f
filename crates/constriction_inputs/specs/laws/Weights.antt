-- Lemmas about symbols under one table of weights.
use Rattle.std.proofs.Common.{◌<◌, ◌≤◌, ℕ, All, List, [], ◌∷◌, length, arith}
use Rattle.std.proofs.lemmas.List.Elements.{All-nil, All-cons}
use Rattle.constriction_base.specs.Models.{AreKnown, items_of}
use Rattle.constriction_base.specs.laws.Weights.{has_only}
use Rattle.constriction_inputs.specs.Weights.{weights_model}

-- Known symbols are indexes of the weights.
pub known_below : (precision many : ℕ) (ws xs : List ℕ) → length ws ≤ many → AreKnown (items_of (weights_model precision ws) xs) → All (λ x. x < many) xs
known_below precision many ws [] few known = All-nil (λ x. x < many)
known_below precision many ws (x ∷ xs) few known =
    let only = has_only 0 0 ws x known.0.0 known.0.1 known.0.2 in
    All-cons (λ x. x < many) x xs (omega (arith, only.1, few)) (known_below precision many ws xs few known.1)
