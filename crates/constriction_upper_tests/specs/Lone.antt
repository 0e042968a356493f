-- The only codeword of a codebook in the tests: a 1, and then a given number of zeros.
use Rattle.std.specs.Prelude.{ℕ, Bool, true, false, List, [], ◌∷◌, ◌++◌, Option, Some, replicate, reverse}

-- The codeword from the last bit to the first: the given number of zeros, and then a 1.
abbrev pub lone_suffix : ℕ → List Bool
lone_suffix zeros = replicate zeros false ++ true ∷ []

-- The codeword in reading order: a 1, and then the given number of zeros.
abbrev pub lone : ℕ → Option (List Bool)
lone zeros = Some (reverse (lone_suffix zeros))
