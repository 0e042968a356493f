-- Results that hold errors.
use Rattle.std.specs.Prelude.{◌≡◌, Result, Err}

-- errors are the same whatever else the results may hold
pub same_error : {A B E : Type 0} {e f : E} → ◌≡◌ {A = Result A E} (Err e) (Err f) → ◌≡◌ {A = Result B E} (Err e) (Err f)
same_error is = cc
