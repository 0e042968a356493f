-- Symbols of any words: they are read exactly where the words lie within their run.
use Rattle.std.proofs.Common.{◌≡◌, ◌↔◌, ℕ, ◌<◌, List, [], ◌∷◌, length, arith}
use Rattle.constriction_base.specs.Models.{Item, AreModels, pairs_of}
use Rattle.constriction_queue.specs.Range.{Run, Within, initial}
use Rattle.constriction_laws.specs.queue.Outcomes.{LieWithin}
use Rattle.constriction_queue.specs.Symbols.{NarrowsAll, FindsAll}
use Rattle.constriction_queue.proofs.Entries.{as_encodes}

module _ {S : Type 0} (w s : ℕ) (words : List ℕ)
    (law : (first : Item S) (others : List (Item S)) (last : Run) → AreModels w (first ∷ others) → NarrowsAll w s (first ∷ others) (initial s) last
    → FindsAll w s words (first ∷ others) (initial s) last ↔ Within w s words last) where
  pub found_of : (items : List (Item S)) → AreModels w items → (lie : LieWithin w s words items) → FindsAll w s words items (initial s) lie.0
  found_of [] ms lie = lie.1
  found_of (item ∷ items) ms lie = (law item items lie.0 ms lie.1).1 lie.2

  pub lie_of : (items : List (Item S)) (last : Run) → AreModels w items → 0 < length items → FindsAll w s words items (initial s) last → LieWithin w s words items
  lie_of [] last ms some found = absurd (omega (arith, some))
  lie_of (item ∷ items) last ms some found =
      let coded = as_encodes w s words (item ∷ items) (initial s) last found in
      (last, coded, (law item items last ms coded).0 found)

pub some_pairs : {S M : Type 0} (precision : ℕ) (table : M → List (S × ℕ × ℕ)) (symbols : List S) (models : List M) → length symbols ≡ length models → 0 < length models
    → 0 < length (pairs_of precision table symbols models)
some_pairs precision table [] models count some = absurd (omega (arith, count, some))
some_pairs precision table (x ∷ xs) [] count some = absurd (omega (arith, some))
some_pairs precision table (x ∷ xs) (m ∷ ms) count some = omega arith
