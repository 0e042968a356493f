-- The value of a word or a state of `w` bits. Contracts represent it by a natural number, of which only the lowest `w`
-- bits count.
use Rattle.std.specs.Prelude.{ℕ, ◌%◌, ◌^◌}

-- The lowest `w` bits of a number: the number of a word or state that has `w` bits.
abbrev pub lowest : ℕ → ℕ → ℕ
lowest w x = x % 2 ^ w
