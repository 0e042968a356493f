-- Decoded symbols, each with the table and the precision of its model.
use Rattle.std.specs.Prelude.{ℕ, List, map}
use Rattle.std.specs.List.{zip}
use Rattle.constriction_chain.specs.Runs.{Decoding}

-- A symbol and the table of its model.
abbrev pub decoding_of : {S M : Type 0} → ℕ → (M → List (S × ℕ × ℕ)) → S × M → Decoding S
decoding_of precision table pair = record { precision = precision; table = table pair.1; symbol = pair.0 }

-- The symbols, each with the table of its own model.
abbrev pub decodings_by : {S M : Type 0} → ℕ → (M → List (S × ℕ × ℕ)) → List S → List M → List (Decoding S)
decodings_by precision table symbols models = map (decoding_of precision table) (zip symbols models)
