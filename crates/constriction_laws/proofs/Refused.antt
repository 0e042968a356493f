-- Lists of encodes that the coder itself refused: one of the symbols has no entry, for any coder that refuses nothing else.
use Rattle.std.specs.Iterator.{Yields, YieldsThen}
use Rattle.std.specs.Iterator.Adapters.{zip_steps, zip_steps_back}
use Rattle.std.specs.Slice.Iter.{iter_rest, iter_steps, iter_steps_back}
use Rattle.std.specs.declared.iter.Zip.{Zip}
use Rattle.std.specs.List.{zip}
use Rattle.std.specs.Prelude.{reverse}
use Rattle.std.proofs.Common.{◌≡◌, ◌∙◌, ℕ, Bor, Iter, Some, List, [], ◌∷◌, ◌++◌, Result, Err, map, refl, sym, ap, ap₂, append_assoc}
use Rattle.std.proofs.lemmas.List.{map-append}
use Rattle.constriction_base.specs.declared.errors.CoderError.TheVariants.{Frontend}
use Rattle.constriction_base.specs.declared.errors.DefaultEncoderFrontendError.{DefaultEncoderFrontendError}
use Rattle.constriction_base.specs.Models.{Item, item_of, pairs_of}
use Rattle.constriction_base.specs.Steps.{Step}
use Rattle.constriction_base.specs.Tables.{Impossible}
use Rattle.constriction_stream.proofs.Outcomes.{EncodesByBackend, frontend_by}
use Rattle.constriction_laws.specs.Outcomes.{HasImpossibleItem}
use Rattle.constriction_laws.proofs.PairCalls.{rest_of, SameLength, both_now, left_in, pairs_from_back}

pub pairs_from_front : {A B : Type 0} (i : Zip (Iter A) (Iter B)) (xs : List (Bor A × Bor B)) (j : Zip (Iter A) (Iter B)) → Yields (zip_steps iter_steps iter_steps) i xs j
    → rest_of i ≡ map both_now xs ++ rest_of j
pairs_from_front i [] j run = ap rest_of run
pairs_from_front {A} {B} i (x ∷ xs) j run =
    ap₂ (λ (xs : List A) (ys : List B). zip xs ys) run.1.0 run.1.1
    ∙ ap (λ (ps : List (A × B)). both_now x ∷ ps) (pairs_from_front run.0 xs j run.2)

-- an item that stands in a list under its own model
among : {S M : Type 0} (precision : ℕ) (table : M → List (S × ℕ × ℕ)) (before after pairs : List (S × M)) (pair : S × M) → pairs ≡ before ++ pair ∷ after → Impossible (table pair.1) pair.0
    → HasImpossibleItem (map (λ (pair : S × M). item_of (record { precision = precision; table = table pair.1 }) pair.0) pairs)
among {S} {M} precision table before after pairs pair is never =
    let item : S × M → Item S = λ pair. item_of (record { precision = precision; table = table pair.1 }) pair.0 in
    (map item before, map item after, item pair, ap (λ (ps : List (S × M)). map item ps) is ∙ map-append item before (pair ∷ after), never)

-- the coder's own refusal of a list, and what one that is refused later says
module _ {C B : Type 0} (steps : C → Step → Result (Unit {0}) B → C → Type 0) (precision : ℕ) where
  -- of symbols that have a model each
  module _ {S M : Type 0} (table : M → List (S × ℕ × ℕ)) (symbols : List S) (models : List M) (i : Zip (Iter S) (Iter M)) (is : rest_of i ≡ zip symbols models) where
    pub pair_impossible_from_back : (coded : List (Bor S × Bor M)) (pair : Bor S × Bor M) (rest : Zip (Iter S) (Iter M)) (old new : C) (refusal : DefaultEncoderFrontendError)
        → SameLength i → YieldsThen (zip_steps_back iter_steps_back iter_steps_back left_in left_in) i coded (Some pair) rest
        → EncodesByBackend steps precision (table pair.1.now) pair.0.now old (Err (Frontend refusal)) new → HasImpossibleItem (pairs_of precision table symbols models)
    pair_impossible_from_back coded pair rest old new refusal same gave step =
        let front = pairs_from_back i coded gave.0 same gave.1 in
        let last = pairs_from_back gave.0 (pair ∷ []) rest front.1 (rest, gave.2, refl) in
        among precision table (rest_of rest) (reverse (map both_now coded)) (zip symbols models) (both_now pair)
        (sym is ∙ (front.0 ∙ (ap (λ (ps : List (S × M)). ps ++ reverse (map both_now coded)) last.0
        ∙ append_assoc (rest_of rest) (both_now pair ∷ []) (reverse (map both_now coded)))))
        (frontend_by steps precision (table pair.1.now) pair.0.now old new refusal step).0
