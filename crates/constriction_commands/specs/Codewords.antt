-- Bits as the ASCII digits 0 and 1.
use Rattle.std.specs.Prelude.{ℕ, Bool, true, false, List, map}

-- The ASCII digit of a bit.
abbrev pub digit : Bool → ℕ
digit true = 49
digit false = 48

-- The ASCII digits of a list of bits, in order.
abbrev pub digits : List Bool → List ℕ
digits bits = map digit bits
