use Rattle.std.proofs.Common.{Result, Ok, Err, refl}
use Rattle.std.specs.Prelude.{IsOk, OnErr}
use Rattle.constriction_lower_tests.proofs.base.laws.goes_where_it_stands.Goals as goal

-- what isn't refused is done
done : {T E P : Type 0} (answer : Result T E) → OnErr answer P → (P → ⊥) → IsOk answer
done (Ok x) h never = refl
done (Err e) h never = absurd (never h)

pub returns : goal.returns
returns g c = done _ c.seek.ensures.err (g.met.B.SeeksBack.accept_law _ _ c.pos-place.ensures)
