use Rattle.std.proofs.Common.{◌≡◌, ℕ, ◌+◌, ◌-◌, ◌*◌, ◌/◌, ◌^◌, ◌<◌, ◌≤◌, ◌∙◌, ap, arith, pow_pos, pow-add}
use Rattle.std.proofs.Math.Nat.{div-lt_iff_lt-mul, lt-div-mul-add}
use Rattle.std.proofs.Math.Pow.{pow_mono}
use Rattle.std.proofs.Common.{div-mul-le_self}
use Rattle.constriction_base.proofs.weights.WeightTable.bucket.Goals as goal

-- so many bits are left of a quantile
below_buckets : (q precision shift : ℕ) → shift ≤ precision → q < 2 ^ precision → q / 2 ^ shift < 2 ^ (precision - shift)
below_buckets q precision shift within below =
    let exponent : precision ≡ (precision - shift) + shift = omega arith in
    let split : 2 ^ precision ≡ 2 ^ (precision - shift) * 2 ^ shift = ap (λ (n : ℕ). 2 ^ n) exponent ∙ pow-add 2 (precision - shift) shift in
    (div-lt_iff_lt-mul (pow_pos shift)).1 (omega (arith, split, below))

pub to_index-requires : goal.to_index-requires
to_index-requires g c =
    let cut = c.args.self.now.cut in
    omega (arith, c.shift_right.ensures, below_buckets (g.Probability.Natural.number c.args.quantile) g.row.PRECISION c.args.self.now.shift (omega (arith, cut.0)) c.requires, pow_mono cut.1)

pub returns-clause-within : goal.returns-clause-within
returns-clause-within g c =
    omega (arith, c.to_index.ensures, c.shift_right.ensures, c.args.self.now.buckets, below_buckets (g.Probability.Natural.number c.args.quantile) g.row.PRECISION c.args.self.now.shift (omega (arith, c.args.self.now.cut.0)) c.requires)

-- a quantile is below the end of its bucket
below_next : (q width k : ℕ) → 0 < width → k ≡ q / width → q < (k + 1) * width
below_next q width k some is =
    let at : k * width ≡ q / width * width = ap (λ n. n * width) is in
    omega (arith, lt-div-mul-add {a = q} {b = width} some, at)

pub returns-clause-below : goal.returns-clause-below
returns-clause-below g c = below_next _ _ _ (pow_pos c.args.self.now.shift) (c.to_index.ensures ∙ c.shift_right.ensures)

pub shift_right-requires : goal.shift_right-requires
shift_right-requires g c = omega (arith, c.args.self.now.cut.0, c.args.self.now.fits)

-- or at its beginning
from_first : (q width k : ℕ) → k ≡ q / width → k * width ≤ q
from_first q width k is = omega (arith, ap (λ n. n * width) is, div-mul-le_self q width)

pub returns-clause-above : goal.returns-clause-above
returns-clause-above g c = from_first _ _ _ (c.to_index.ensures ∙ c.shift_right.ensures)
