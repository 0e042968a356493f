-- The two sorted queues of Huffman's algorithm (leaves and unions), as pairs of a weight and an index.
use Rattle.std.specs.Prelude.{ℕ, ◌<◌, ◌≤◌, List, [], ◌∷◌, All, ⊤}
use Rattle.constriction_symbol.specs.Huffman.{IsPairLe}

-- Each pair is at most each pair that follows it, by weight and then by index.
abbrev pub AreRising : List (ℕ × ℕ) → Type 0
AreRising [] = ⊤
AreRising (p ∷ ps) = All (IsPairLe p) ps × AreRising ps

-- Both queues are sorted. Leaves have the indices below n, unions the others.
pub record AreQueues (n : ℕ) (leaves unions : List (ℕ × ℕ)) : Type 0 where
  pub leaves_rise : AreRising leaves
  pub unions_rise : AreRising unions
  pub leaves_below : All (λ p. p.1 < n) leaves
  pub unions_above : All (λ p. n ≤ p.1) unions
