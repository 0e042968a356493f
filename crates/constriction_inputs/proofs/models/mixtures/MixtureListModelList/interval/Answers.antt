use Rattle.std.proofs.Common.{ℕ, List, subst}
use Rattle.constriction_base.specs.Tables.{Impossible}
use Rattle.constriction_inputs.specs.Items.{IsEntryOf}
use Rattle.constriction_inputs.proofs.Places.{table_turned}
use Rattle.constriction_inputs.proofs.models.mixtures.MixtureListModelList.interval.Goals as goal

pub returns-in-Some-clause-found : goal.returns-in-Some-clause-found
returns-in-Some-clause-found g c =
    let is = table_turned _ _ _ c.args.place _ c.select.ensures.place c.select.ensures.tables c.requires c.model-model.ensures in
    subst (λ (t : List (ℕ × ℕ × ℕ)). IsEntryOf g.row.PRECISION g.P.Natural.BITS t c.args.symbol (g.P.Natural.number c.in-Some.found.0) (g.P.BitArray.nonzero_number c.in-Some.found.1)) is c.in-Some.ensures.found

pub returns-in-None-clause-impossible : goal.returns-in-None-clause-impossible
returns-in-None-clause-impossible g c =
    let is = table_turned _ _ _ c.args.place _ c.select.ensures.place c.select.ensures.tables c.requires c.model-model.ensures in
    subst (λ (t : List (ℕ × ℕ × ℕ)). Impossible t c.args.symbol) is c.in-None.ensures.impossible
