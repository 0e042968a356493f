-- What an iterator over two slices gives, from the front.
use Rattle.std.specs.Iterator.{Yields, Drains}
use Rattle.std.specs.Iterator.Adapters.{zip_first, zip_second, zip_steps}
use Rattle.std.specs.Slice.Iter.{iter_rest, iter_steps}
use Rattle.std.specs.declared.iter.Zip.{Zip}
use Rattle.std.specs.List.{zip}
use Rattle.std.proofs.Common.{◌≡◌, ◌∙◌, Bor, Iter, List, [], ◌∷◌, ◌++◌, inl, inr, map, refl, sym, ap, ap₂}
use Rattle.std.proofs.lemmas.List.{append-nil}
use Rattle.constriction_base.proofs.FromBack.{none_left}

zip_nothing : {A B : Type 0} (xs : List A) → ◌≡◌ {A = List (A × B)} (zip xs []) []
zip_nothing [] = refl
zip_nothing (x ∷ xs) = refl

module _ {A B : Type 0} where
  abbrev pub pairs_left : Zip (Iter A) (Iter B) → List (A × B)
  pairs_left i = zip (iter_rest (zip_first i)) (iter_rest (zip_second i))

  abbrev pub both_now : Bor A × Bor B → A × B
  both_now p = (p.0.now, p.1.now)

  pub pairs_given : (i : Zip (Iter A) (Iter B)) (xs : List (Bor A × Bor B)) (j : Zip (Iter A) (Iter B)) → Yields (zip_steps iter_steps iter_steps) i xs j
      → pairs_left i ≡ map both_now xs ++ pairs_left j
  pairs_given i [] j run = ap pairs_left run
  pairs_given i (x ∷ xs) j run =
      ap₂ (λ (xs : List A) (ys : List B). zip xs ys) run.1.0 run.1.1
      ∙ ap (λ (ps : List (A × B)). both_now x ∷ ps) (pairs_given run.0 xs j run.2)

  pub all_pairs_given : (i : Zip (Iter A) (Iter B)) (xs : List (Bor A × Bor B)) → Drains (zip_steps iter_steps iter_steps) i xs → map both_now xs ≡ pairs_left i
  all_pairs_given i xs run =
      let j = run.1.0 in
      let ended : pairs_left j ≡ [] = elim run.1.2 [
        | inl first ↦ ap (λ (xs : List A). zip xs (iter_rest (zip_second j))) (none_left (iter_rest (zip_first j)) first.1.0)
        | inr second ↦ ap (λ (ys : List B). zip (iter_rest (zip_first j)) ys) (none_left (iter_rest (zip_second j)) second.1.0) ∙ zip_nothing (iter_rest (zip_first j))
      ] in
      sym (append-nil (map both_now xs)) ∙ ap (λ (ps : List (A × B)). map both_now xs ++ ps) (sym ended) ∙ sym (pairs_given i xs j run.1.1)
