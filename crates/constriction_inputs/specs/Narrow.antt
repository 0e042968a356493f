-- Numbers of narrow integer types.
use Rattle.std.specs.Prelude.{ℕ, ◌%◌, ◌^◌, List, map}

-- The lowest bits of each number.
abbrev pub lowest_bits : ℕ → List ℕ → List ℕ
lowest_bits bits ns = map (λ n. n % 2 ^ bits) ns
