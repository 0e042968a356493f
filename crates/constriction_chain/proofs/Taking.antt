-- The entry that holds a quantile.
use Rattle.std.proofs.Common.{◌≡◌, ℕ, ◌%◌, ◌^◌, ◌<◌, ◌≤◌, arith, ◌∙◌}
use Rattle.constriction_base.specs.Tables.{Covers}
use Rattle.constriction_base.proofs.Sizes.{same_number}

-- the quantile that is looked up is the one that was taken
pub covered : (P V q n left p : ℕ) → q < 2 ^ P → P ≤ V → n ≡ q % 2 ^ V → Covers left p n → Covers left p q
covered P V q n left p below within is c =
    let same : n ≡ q = is ∙ same_number q P V below within in
    (omega (arith, same, c.0), omega (arith, same, c.1))
