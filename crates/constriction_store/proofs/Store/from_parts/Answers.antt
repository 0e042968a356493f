use Rattle.std.proofs.Common.{◌≡◌, length, refl, arith}
use Rattle.std.proofs.lemmas.Bool.{false≢true}
use Rattle.constriction_store.proofs.Store.from_parts.Goals as goal

pub returns-then-not-index_fits-clause-variant : goal.returns-then-not-index_fits-clause-variant
returns-then-not-index_fits-clause-variant g c =
    let same : c.len.result ≡ length c.args.words.items = omega (arith, c.len.ensures, c.args.words.ok.0) in
    let test = rw (same, c.as_slice.ensures.value) at c.if-not-index_fits.ensures in
    (λ off. absurd (false≢true off), λ fits. absurd (false≢true (test.1 fits)))

pub invariant_of-result : goal.invariant_of-result
invariant_of-result g c =
    let same : c.len.result ≡ length c.args.words.items = omega (arith, c.len.ensures, c.args.words.ok.0) in
    let test = rw (same, c.as_slice.ensures.value) at c.if-not-index_fits.ensures in
    (c.requires, test.0 refl)

pub returns-clause-variant : goal.returns-clause-variant
returns-clause-variant g c =
    let same : c.len.result ≡ length c.args.words.items = omega (arith, c.len.ensures, c.args.words.ok.0) in
    let test = rw (same, c.as_slice.ensures.value) at c.if-not-index_fits.ensures in
    (λ on. test.0 refl, λ fits. refl)
