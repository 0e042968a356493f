-- What symbols of a type keep of numbers, one number after the other.
use Rattle.std.proofs.Common.{◌≡◌, ◌∙◌, ℕ, ◌<◌, All, List, [], ◌∷◌, ◌++◌, length, ap₂, sym, arith}
use Rattle.std.proofs.lemmas.List.{drop_all}
use Rattle.std.proofs.lemmas.List.Elements.{All-nil}

module _ {S : Type 0} (numbers : List S → List ℕ) (kept : List ℕ → List ℕ) where
  -- of no numbers nothing is kept
  pub kept_none : (many : ℕ) → ((xs : List S) → length (numbers xs) ≡ length xs) → ((ns : List ℕ) → All (λ n. n < many) ns → kept ns ≡ ns) → numbers [] ≡ kept []
  kept_none many counts law = drop_all 0 (numbers []) (omega (arith, counts [])) ∙ sym (law [] (All-nil (λ n. n < many)))

  -- of one number more, what is kept of it is more
  pub kept_more : ((xs ys : List S) → numbers (xs ++ ys) ≡ numbers xs ++ numbers ys) → ((ns ms : List ℕ) → kept (ns ++ ms) ≡ kept ns ++ kept ms)
      → (xs : List S) (x : S) (ns : List ℕ) (n : ℕ) → numbers xs ≡ kept ns → numbers (x ∷ []) ≡ kept (n ∷ []) → numbers (xs ++ x ∷ []) ≡ kept (ns ++ n ∷ [])
  kept_more parts kept_parts xs x ns n before is = parts xs (x ∷ []) ∙ (ap₂ (λ (a b : List ℕ). a ++ b) before is ∙ sym (kept_parts ns (n ∷ [])))
