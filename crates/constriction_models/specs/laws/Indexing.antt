-- Proof that a quantized table with indices in place of symbols is a table.
use Rattle.std.specs.Prelude.{◌≡◌, ℕ, suc, ◌+◌, ◌-◌, ◌^◌, ◌<◌, ◌≤◌, length, ℤ}
use Rattle.std.proofs.Common.{refl, ap, arith, subst, sym, ◌∙◌}
use Rattle.constriction_base.specs.Tables.{Has, Impossible, IsTable}
use Rattle.constriction_models.specs.Quantized.{IsDistribution, symbol_of, start_of, quantized, indexed}
use Rattle.constriction_models.specs.laws.Cutting.{cut_is_table, cut_entry, cut_has_only, cut_impossible, length-cut}
use Rattle.constriction_models.specs.laws.Quantizing.{starts_cut, symbols_differ}

pub indexed_is_table : (precision : ℕ) (below : ℤ → ℕ) (min : ℤ) (count : ℕ) → IsDistribution below → 2 ≤ count → count ≤ 2 ^ precision → IsTable precision (indexed precision below min count)
unfolding indexed
indexed_is_table precision below min count is some room = cut_is_table precision (λ k. k) (start_of precision below min count) count (λ i j same. same) (starts_cut precision below min count is (omega arith) room)

pub indexed_two : (precision : ℕ) (below : ℤ → ℕ) (min : ℤ) (count : ℕ) → 2 ≤ count → 2 ≤ length (indexed precision below min count)
unfolding indexed
indexed_two precision below min count some = omega (arith, length-cut (λ (k : ℕ). k) (start_of precision below min count) 0 count)

-- Index k has the entry that begins at its start and ends at the start of index k + 1.
pub indexed_has : (precision : ℕ) (below : ℤ → ℕ) (min : ℤ) (count k l p : ℕ) → k < count → l ≡ start_of precision below min count k → p ≡ start_of precision below min count (k + 1) - l → Has (indexed precision below min count) k l p
unfolding indexed
indexed_has precision below min count k l p inside begins long = cut_entry (λ k. k) (start_of precision below min count) count k k l p inside refl begins long

-- An index that isn't below `count` has no entry.
pub indexed_impossible : (precision : ℕ) (below : ℤ → ℕ) (min : ℤ) (count k : ℕ) → count ≤ k → Impossible (indexed precision below min count) k
unfolding indexed
indexed_impossible precision below min count k past = cut_impossible (λ k. k) (start_of precision below min count) count k (λ j inside is. omega (arith, is))

-- Symbol s has an index, and the entry of this index has the start l and the length p.
pub record IsPlaced (precision : ℕ) (below : ℤ → ℕ) (min : ℤ) (count : ℕ) (s : ℤ) (l p : ℕ) : Type 0 where
  pub place : ℕ
  pub is_symbol : symbol_of min place ≡ s
  pub has : Has (indexed precision below min count) place l p

pub placed : (precision : ℕ) (below : ℤ → ℕ) (min : ℤ) (count : ℕ) (s : ℤ) (l p : ℕ) → Has (quantized precision below min count) s l p → IsPlaced precision below min count s l p
unfolding quantized
placed precision below min count s l p has =
    let only = cut_has_only (symbol_of min) (start_of precision below min count) 0 count s l p has in
    let next : suc only.place ≡ only.place + 1 = omega arith in
    record {
      place = only.place;
      is_symbol = only.is_symbol;
      has = indexed_has precision below min count only.place l p (omega (arith, only.below)) (omega (arith, only.begins)) (omega (arith, only.begins, only.long, ap (start_of precision below min count) next));
    }

pub indexed_of : (precision : ℕ) (below : ℤ → ℕ) (min : ℤ) (count : ℕ) (s : ℤ) (k l p : ℕ) → Has (quantized precision below min count) s l p → symbol_of min k ≡ s → Has (indexed precision below min count) k l p
indexed_of precision below min count s k l p has is =
    let only = placed precision below min count s l p has in
    subst (λ (j : ℕ). Has (indexed precision below min count) j l p) (symbols_differ min only.place k (only.is_symbol ∙ sym is)) only.has
