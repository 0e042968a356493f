use Rattle.std.specs.Prelude.{ℕ, ◌<◌, ◌≤◌, ◌^◌, length}
use Rattle.std.specs.List.{sum}
use Rattle.std.proofs.Common.{arith, refl}
use Rattle.constriction_base.proofs.Sizes.{pow_le}
use Rattle.constriction_models.specs.Categorical.{MakeCategorical}
use Rattle.constriction_models.proofs.Searching.{high_least, high_most}
use Rattle.constriction_models.proofs.Sharing.{sum_within}
use Rattle.constriction_models.proofs.Words.{power_in_word}
use Rattle.constriction_models.proofs.categorical.CategoricalCounts.have_table.Goals as goal

pub returns-then-counts-le256 : goal.returns-then-counts-le256
returns-then-counts-le256 g c =
    let counts = c.args.counts.now in
    let few : length counts < 2 ^ g.row.PRECISION = omega (arith, c.if-counts.false, power_in_word g.row.PRECISION (omega (arith, c.requires.sizes.1))) in
    let most = sum_within (λ (x : ℕ). x) 4294967295 counts (λ k h. omega (arith, c.type_inv.counts k)) in (
      λ yes. record { few = few; some = c.is_some_above_0.ensures.0 yes; fits = omega (arith, most, c.if-counts-le256.true) },
      λ made. c.is_some_above_0.ensures.1 made.some,
    )

pub returns-then-high-counts-le16777216 : goal.returns-then-high-counts-le16777216
returns-then-high-counts-le16777216 g c =
    let counts = c.args.counts.now in
    let few : length counts < 2 ^ g.row.PRECISION = omega (arith, c.if-counts.false, power_in_word g.row.PRECISION (omega (arith, c.requires.sizes.1))) in
    let high = c.sum_of_high-high.ensures in
    let some : 0 < sum counts = omega (arith, high, high_least counts, c.if-high-gt0.true) in
    let fits : sum counts < 1099511627776 = omega (arith, high, high_most counts, c.if-high-counts-le16777216.true, c.if-counts-le256.false) in
    (λ yes. record { few = few; some = some; fits = fits }, λ made. refl)

pub sum_of-total-requires : goal.sum_of-total-requires
sum_of-total-requires g c =
    let few = c.requires.sizes.1 in
    omega (arith, c.if-counts.false, power_in_word g.row.PRECISION (omega (arith, few)), pow_le g.row.PRECISION 24 few)
