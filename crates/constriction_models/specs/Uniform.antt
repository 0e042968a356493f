-- The table of a uniform model: all weights are equal, but the last symbol also gets the remainder.
use Rattle.std.specs.Prelude.{ℕ, ◌*◌, ◌/◌, ◌^◌, List, cond, nat_lt}
use Rattle.constriction_models.specs.Cuts.{entries_from}

-- The start of symbol k's interval: k times the equal share, or `all` if k is the number of symbols.
unfoldable pub even_start : ℕ → ℕ → ℕ → ℕ
even_start all count k = cond (nat_lt k count) (k * (all / count)) all

-- The table of the symbols below `count`.
unfoldable pub uniform : ℕ → ℕ → List (ℕ × ℕ × ℕ)
uniform precision count = entries_from (λ k. k) (even_start (2 ^ precision) count) 0 count
