-- The table of a row of counts: each symbol has one quantile of its own, and the counts share the other quantiles.
use Rattle.std.specs.Prelude.{ℕ, ◌+◌, ◌-◌, ◌*◌, ◌/◌, ◌^◌, ◌<◌, List, length, take}
use Rattle.std.specs.List.{sum}
use Rattle.constriction_models.specs.Cuts.{entries_from}

-- The start of symbol k's interval: the share of the counts before k, rounded down, plus one quantile for each symbol
-- before k. The counts share the quantiles that are left when each symbol has one.
unfoldable pub shared_start : ℕ → List ℕ → ℕ → ℕ
shared_start all counts k = sum (take k counts) * (all - length counts) / sum counts + k

-- The table of the symbols 0, 1, .., with one count for each symbol. The last interval ends at 2 ^ precision.
unfoldable pub categorical : ℕ → List ℕ → List (ℕ × ℕ × ℕ)
categorical precision counts = entries_from (λ k. k) (shared_start (2 ^ precision) counts) 0 (length counts)

-- The counts have a table: there are fewer than 2 ^ precision counts, and their sum is above 0 and below 2 ^ 40.
pub record MakeCategorical (precision : ℕ) (counts : List ℕ) : Type 0 where
  pub few : length counts < 2 ^ precision
  pub some : 0 < sum counts
  pub fits : sum counts < 1099511627776
