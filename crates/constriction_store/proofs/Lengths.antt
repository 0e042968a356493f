-- The lengths of an index's chunks.
use Rattle.std.proofs.Common.{◌≡◌, ℕ, ◌-◌, List, [], ◌∷◌, length, map, refl, ap₂}
use Rattle.constriction_base.specs.Models.{Model}
use Rattle.constriction_queue.specs.Range.{Run}
use Rattle.constriction_store.specs.Stores.{Entry, Indexes}

pub lens_of : (w s : ℕ) (model : Model ℕ) (chunks : List (List ℕ)) (entries : List Entry) (old new : Run) → Indexes w s model chunks entries old new
    → map (λ e. e.len) entries ≡ map (λ (chunk : List ℕ). length chunk) chunks
lens_of w s model [] [] old new all = refl
lens_of w s model [] (e ∷ es) old new all = absurd all
lens_of w s model (c ∷ cs) [] old new all = absurd all
lens_of w s model (c ∷ cs) (e ∷ es) old new all = ap₂ (λ (x : ℕ) (xs : List ℕ). x ∷ xs) all.1 (lens_of w s model cs es all.2.0 new all.2.2)
