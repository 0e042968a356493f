-- Seals where a state is two words: they hold whatever follows.
use Rattle.std.proofs.Common.{◌≡◌, ℕ, ◌+◌, ◌-◌, ◌*◌, ◌/◌, ◌^◌, ◌<◌, ◌≤◌, List, refl, ap, ◌∙◌, subst, inl, inr, arith, eq-eqb, ne_eqb, pow_pos, div-add-mod'}
use native.Mathlib.Nat.{pow-zero}
use Rattle.std.proofs.lemmas.Bool.{cases_eq, cases_lt}
use Rattle.constriction_base.specs.Steps.{IsSizes}
use Rattle.constriction_queue.specs.Range.{IsInterval, Run, seal_number, sealed}
use Rattle.constriction_queue.specs.SelfDelimiting.{AreEnough, SelfDelimits}
use Rattle.constriction_queue.proofs.SealedRuns.{ceil_below}
use Rattle.constriction_queue.proofs.SelfSealed.{ends_by_gap}

-- the words with a seal hold whatever follows
pub sealed_self : (w s : ℕ) (r : Run) (words : List ℕ) → IsSizes w s → s / w ≡ 2 → IsInterval w s r → words ≡ sealed w s r → SelfDelimits w s r words
sealed_self w s r words sizes two v is = elim (cases_eq r.range (2 ^ s - 1)) [
  | inl whole ↦ inl (omega (arith, whole, v.fits), is ∙ rw (eq-eqb r.range (2 ^ s - 1) whole) refl)
  | inr coded ↦ (
      let q : ℕ = 2 ^ (s - w) in
      let c : ℕ = seal_number w s r in
      let low : c * q < r.low + q = ceil_below r.low q (pow_pos (s - w)) in
      let part : r.range + 1 < 2 ^ s = omega (arith, v.fits, coded) in
      let plain = ne_eqb r.range (2 ^ s - 1) coded in
      let bits : s / w * w ≡ s = omega (arith, sizes.whole, div-add-mod' s w) in
      let both : s / w * w ≡ 2 * w = ap (λ n. n * w) two in
      let gap : ℕ = r.low + r.range - c * q in
      let total : c * q + gap ≡ r.low + r.range = omega (arith, low, v.least) in
      let ends = ends_by_gap (r.low + r.range) q c gap (pow_pos (s - w)) total in
      elim (cases_eq ((r.low + r.range) / q) c) [
        | inl same ↦ (
            let none : s - w - 1 * w ≡ 0 = omega (arith, bits, both) in
            let one : 2 ^ (s - w - 1 * w) ≡ 1 = ap (λ n. 2 ^ n) none ∙ pow-zero 2 in
            let all : s - w - 0 * w ≡ s - w = omega arith in
            let short : gap < q = ends.0 same in
            inr (
              part,
              (
                1,
                record {
                  few = omega (arith, two);
                  enough = rw one (omega (arith, low, v.least));
                  least = λ k less enough. elim (cases_eq k 0) [
                    | inl first ↦ (let here : AreEnough w s r 0 = subst (AreEnough w s r) first enough in omega (arith, rw all at here, short, total))
                    | inr later ↦ omega (arith, less, later)
                  ];
                },
                is ∙ rw (plain, eq-eqb ((r.low + r.range) / q) c same) refl,
              ),
            )
            )
        | inr other ↦ (
            let all : s - w - 0 * w ≡ s - w = omega arith in
            let long : q ≤ gap = elim (cases_lt gap q) [ inl less ↦ absurd (other (ends.1 less)) | inr more ↦ more ] in
            inr (
              part,
              (0, record { few = omega (arith, two); enough = rw all (omega (arith, long, total)); least = λ k less enough. omega (arith, less) }, is ∙ rw (plain, ne_eqb ((r.low + r.range) / q) c other) refl),
            )
            )
      ]
      )
]
