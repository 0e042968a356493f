-- Equal places of equal tables.
use Rattle.std.specs.Prelude.{◌≡◌, ℕ, List, ℤ}
use Rattle.constriction_models.specs.Interpolation.{interpolate}

pub same_located : (v w : List ℕ) (t u r s : ℕ) (a b x y : ℤ) → v ≡ w → t ≡ u → r ≡ s → a ≡ b → x ≡ y → interpolate v t r a x ≡ interpolate w u s b y
same_located v w t u r s a b x y values wide rate middle place = cc
