-- Numbers that fit.
use Rattle.std.specs.Prelude.{◌≡◌, ℕ, ◌<◌, ◌≤◌, ◌*◌, ◌/◌, ◌+◌, ◌^◌}
use Rattle.std.proofs.Common.{arith}
use Rattle.std.proofs.Math.Nat.{div-mul-le_self, mul-le-mul_right, pow-le-pow_right}

-- a product is below a bound if one factor is at most what the other goes into the bound less one
pub fits_by_quotient : (x y q g bound : ℕ) → q ≡ g / y → g + 1 ≡ bound → x ≤ q → x * y < bound
fits_by_quotient x y q g bound is_quotient is_greatest below =
    let whole : q * y ≤ g = rw is_quotient (div-mul-le_self g y) in
    omega (arith, mul-le-mul_right y below, whole)

-- a number is below a power of two if it is below one that is no greater
pub fits_by_length : (x length bits : ℕ) → x < 2 ^ length → length ≤ bits → x < 2 ^ bits
fits_by_length x length bits below within =
    let wider : 2 ^ length ≤ 2 ^ bits = pow-le-pow_right (omega arith) within in
    omega (arith, below, wider)
