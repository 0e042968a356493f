-- Which symbols of a tree of weights have codewords.
use Rattle.std.proofs.Common.{◌<◌, ℕ, All, List, [], ◌∷◌, length, inl, inr}
use Rattle.std.proofs.lemmas.Bool.{cases_lt}
use Rattle.std.proofs.lemmas.List.Elements.{All-nil, All-cons}
use Rattle.constriction_symbol.specs.Huffman.{huffman}
use Rattle.constriction_symbol.proofs.TreeCodewords.{unknown_symbol}
use Rattle.constriction_calls.specs.SymbolCalls.{AllHaveCodewords}

pub below_have : (weights symbols : List ℕ) → AllHaveCodewords (huffman weights) symbols → All (λ s. s < length weights) symbols
below_have weights [] all = All-nil (λ s. s < length weights)
below_have weights (s ∷ symbols) (code, (first, rest, known, is, others)) =
    let here : s < length weights = elim (cases_lt s (length weights)) [ inl below ↦ below | inr past ↦ (let none = unknown_symbol weights s past in absurd cc) ] in
    All-cons (λ x. x < length weights) s symbols here (below_have weights symbols (rest, others))
