-- What a call for weights of counts says where it gives them.
use Rattle.std.specs.Prelude.{Result, Ok, Err, slice_index}
use Rattle.std.specs.List.{sum, sum_by}
use Rattle.std.proofs.Common.{◌≡◌, ◌∙◌, ◌↔◌, ℕ, ◌<◌, ◌^◌, List, length, map, arith, inl, inr, subst, sym}
use Rattle.std.proofs.lemmas.Bool.{cases_eq, cases_lt}
use Rattle.std.proofs.lemmas.List.{length-map}
use Rattle.constriction_models.specs.Counts.{AllShare, AreShares, AreWeights, ServesLargest, positive}
use Rattle.constriction_models.specs.declared.counts.CountsError.{CountsError}
use Rattle.constriction_models.specs.declared.counts.CountsError.TheVariants as errors
use Rattle.constriction_inputs.specs.QuantizedCalls.{AreCounts, WritesWeightsOfCounts}

module _ {T P : Type 0} (number : P → ℕ) (precision : ℕ) (counts : List ℕ) (old new : List P) (x : T) where
  right_counts : (◌≡◌ {A = Result T CountsError} (Ok x) (Err errors.Empty) ↔ (sum_by positive counts ≡ 0))
      → (◌≡◌ {A = Result T CountsError} (Ok x) (Err errors.TooMany) ↔ (2 ^ precision < sum_by positive counts)) → AreCounts precision counts
  right_counts empty many = (
    elim (cases_eq (sum_by positive counts) 0) [ inl none ↦ (let never = empty.1 none in absurd cc) | inr some ↦ omega (arith, some) ],
    elim (cases_lt (2 ^ precision) (sum_by positive counts)) [ inl more ↦ (let never = many.1 more in absurd cc) | inr few ↦ omega (arith, few) ],
  )

  pub weights_put : (lent made : List ℕ) → lent ≡ made → map number new ≡ lent → length old ≡ length counts → length made ≡ length counts → sum made ≡ 2 ^ precision → AreWeights counts (2 ^ precision) made
      → ((k : ℕ) → k < length counts → (0 < slice_index made k) ↔ (0 < slice_index counts k))
      → (AllShare counts (2 ^ precision) → AreShares counts (2 ^ precision) made) → (AllShare counts (2 ^ precision) → ServesLargest counts (2 ^ precision) made)
      → (◌≡◌ {A = Result T CountsError} (Ok x) (Err errors.Empty) ↔ (sum_by positive counts ≡ 0))
      → (◌≡◌ {A = Result T CountsError} (Ok x) (Err errors.TooMany) ↔ (2 ^ precision < sum_by positive counts))
      → WritesWeightsOfCounts precision counts (map number old) (map number new) (Ok tt)
  weights_put lent made lent_is put fit counted total weights some shares first empty many =
      subst (λ (ws : List ℕ). WritesWeightsOfCounts precision counts (map number old) ws (Ok tt)) (sym (put ∙ lent_is)) (record {
        weights = weights;
        total = (counted, total);
        some = some;
        shares = λ all. (shares all, first all);
        asked = inr (length-map old number ∙ fit, inr (right_counts empty many, tt));
        kept = tt;
      })
