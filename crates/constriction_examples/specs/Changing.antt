-- Two symbols from a chain coder with 32-bit words and a 64-bit remainders head. The precision changes in between.
use Rattle.std.specs.Prelude.{ℕ, List, [], ◌∷◌}
use Rattle.constriction.specs.chain.Chain.{ChainState}
use Rattle.constriction.specs.chain.Runs.{Decode, Change, IsRun}

-- From this state, the coder decodes some symbol with 24 bits, changes the precision to 16 bits, and decodes `symbol`.
abbrev pub IsSecondSymbol : (first later : List (ℕ × ℕ × ℕ)) → ChainState → ℕ → Type 0
IsSecondSymbol first later from symbol = (taken : ℕ) × (to : ChainState) × IsRun 32 64 from (
    Decode (record { precision = 24; table = first; symbol = taken }) ∷ Change 16
    ∷ Decode (record { precision = 16; table = later; symbol = symbol }) ∷ []) to
