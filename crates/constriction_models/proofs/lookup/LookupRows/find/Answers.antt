use Rattle.std.specs.Prelude.{◌≡◌, ℕ, slice_index_or}
use Rattle.std.proofs.Common.{sym, subst, ap, ◌∙◌, arith}
use Rattle.constriction_models.specs.Lookup.{IsRowAt}
use Rattle.constriction_models.proofs.Finding.{entry_of_row}
use Rattle.constriction_models.proofs.lookup.LookupRows.find.Goals as goal

pub returns : goal.returns
returns g c = λ table lawful rows.
    let t = c.args.self.now in
    let row = c.index-row.result.now in
    let number : ℕ = g.P.Natural.number c.args.quantile in
    let same : number ≡ c.to_index-place.result = omega (arith, c.to_index-place.ensures) in
    let read = ap (λ k. slice_index_or t.rows.items k row) same ∙ sym c.index-row.ensures in
    let listed : ℕ = c.index.result.now in
    let told = ap (λ k. slice_index_or t.symbols.items k listed) same ∙ sym c.index.ensures in
    let first = subst (λ r. IsRowAt g.P.Natural.number g.P.BitArray.nonzero_number table (slice_index_or t.symbols.items number listed) r number) read (rows.row_at number c.requires.quantile listed row) in
    let at = subst (λ s. IsRowAt g.P.Natural.number g.P.BitArray.nonzero_number table s row number) told first in
    entry_of_row g.P.Natural.number g.P.BitArray.nonzero_number g.row.PRECISION table listed row number lawful c.requires.quantile at
