-- Symbols that have a model each: what list calls and iterators do, and that the symbols come back.
use Rattle.std.specs.Iterator.{Yields, Drains}
use Rattle.std.specs.Iterator.Adapters.{zip_first, zip_second, zip_steps_back}
use Rattle.std.specs.Slice.Iter.{iter_rest, iter_steps_back}
use Rattle.std.specs.declared.iter.Zip.{Zip}
use Rattle.std.specs.List.{zip}
use Rattle.std.proofs.Common.{◌≡◌, ◌∙◌, ℕ, Bor, Iter, None, List, [], ◌∷◌, ◌++◌, inl, inr, length, map, refl, sym, ap, ap₂, subst, arith, append_assoc}
use Rattle.std.specs.Prelude.{reverse}
use Rattle.std.proofs.lemmas.Bool.{cases_lt}
use Rattle.std.proofs.lemmas.List.{reverse-append, reverse-reverse, append-nil, length-append}
use Rattle.constriction_base.specs.Models.{Model, Item, IsModel, pairs_of, models, AreModels}
use Rattle.constriction_base.proofs.FromBack.{none_left}
use Rattle.constriction_base.proofs.WordLists.{zip_push}

-- ---- what an iterator over two slices gave from the back

abbrev pub left_in : {A : Type 0} → Iter A → ℕ
left_in s = length (iter_rest s)

module _ {A B : Type 0} where
  abbrev pub rest_of : Zip (Iter A) (Iter B) → List (A × B)
  rest_of i = zip (iter_rest (zip_first i)) (iter_rest (zip_second i))

  abbrev pub SameLength : Zip (Iter A) (Iter B) → Type 0
  SameLength i = left_in (zip_first i) ≡ left_in (zip_second i)

  abbrev pub both_now : Bor A × Bor B → A × B
  both_now p = (p.0.now, p.1.now)

  pub pairs_from_back : (i : Zip (Iter A) (Iter B)) (xs : List (Bor A × Bor B)) (j : Zip (Iter A) (Iter B)) → SameLength i
      → Yields (zip_steps_back iter_steps_back iter_steps_back left_in left_in) i xs j
      → (rest_of i ≡ rest_of j ++ reverse (map both_now xs)) × SameLength j
  pairs_from_back i [] j same run = (ap rest_of run ∙ sym (append-nil (rest_of j)), subst SameLength run same)
  pairs_from_back i (x ∷ xs) j same run =
      let k = run.0 in
      let first = run.1.0.3 (omega (arith, same)) in
      let second = run.1.1.3 (omega (arith, same)) in
      let alike : SameLength k = omega (arith, same, ap length first, ap length second, length-append (iter_rest (zip_first k)) (x.0.now ∷ []), length-append (iter_rest (zip_second k)) (x.1.now ∷ [])) in
      let more = pairs_from_back k xs j alike run.2 in (
        ap₂ (λ (xs : List A) (ys : List B). zip xs ys) first second
            ∙ zip_push (iter_rest (zip_first k)) (iter_rest (zip_second k)) x.0.now x.1.now alike
            ∙ ap (λ (ps : List (A × B)). ps ++ both_now x ∷ []) more.0
            ∙ append_assoc (rest_of j) (reverse (map both_now xs)) (both_now x ∷ [])
            ∙ ap (λ (ps : List (A × B)). rest_of j ++ ps) (sym (reverse-append (both_now x ∷ []) (map both_now xs))),
        more.1,
      )

  -- where it ended, no item is left
  no_pair_left : (i j : Zip (Iter A) (Iter B)) → SameLength i → zip_steps_back iter_steps_back iter_steps_back left_in left_in i None j → rest_of i ≡ []
  no_pair_left i j same none = elim (cases_lt 0 (left_in (zip_first i))) [
    | inl some ↦ elim (none.1 (omega (arith, same, some))) [
      | inl first ↦ (let ended = first.3 (omega (arith, same)) in absurd (omega (arith, some, ended.0)))
      | inr second ↦ (let ended = second.3 (omega (arith, same)) in absurd (omega (arith, some, same, ended.0)))
    ]
    | inr empty ↦ ap (λ (xs : List A). zip xs (iter_rest (zip_second i))) (none_left (iter_rest (zip_first i)) (omega arith))
  ]

  pub all_pairs_from_back : (i : Zip (Iter A) (Iter B)) (xs : List (Bor A × Bor B)) → SameLength i → Drains (zip_steps_back iter_steps_back iter_steps_back left_in left_in) i xs
      → map both_now xs ≡ reverse (rest_of i)
  all_pairs_from_back i xs same run =
      let front = pairs_from_back i xs run.1.0 same run.1.1 in
      let ended = no_pair_left run.1.0 run.0 front.1 run.1.2 in
      let all : rest_of i ≡ reverse (map both_now xs) = front.0 ∙ ap (λ (ps : List (A × B)). ps ++ reverse (map both_now xs)) ended in
      sym (reverse-reverse (map both_now xs)) ∙ ap (λ (ps : List (A × B)). reverse ps) (sym all)

-- ---- the items of symbols and models
module _ {S M : Type 0} (precision : ℕ) (table : M → List (S × ℕ × ℕ)) where
  pub are_pairs : (w : ℕ) (xs : List S) (ms : List M) → ((m : M) → IsModel w (record { precision = precision; table = table m })) → AreModels w (pairs_of precision table xs ms)
  are_pairs w [] ms lawful = tt
  are_pairs w (x ∷ xs) [] lawful = tt
  are_pairs w (x ∷ xs) (m ∷ ms) lawful = (lawful m, are_pairs w xs ms lawful)

  pub same_models : (xs ys : List S) (ms : List M) → length xs ≡ length ys → models (pairs_of precision table xs ms) ≡ models (pairs_of precision table ys ms)
  same_models [] [] ms same = refl
  same_models [] (y ∷ ys) ms same = absurd (omega arith)
  same_models (x ∷ xs) [] ms same = absurd (omega arith)
  same_models (x ∷ xs) (y ∷ ys) [] same = refl
  same_models (x ∷ xs) (y ∷ ys) (m ∷ ms) same =
      ap (λ (ns : List (Model S)). record { precision = precision; table = table m } ∷ ns) (same_models xs ys ms (omega arith))

  pub their_symbols : (xs : List S) (ms : List M) → length xs ≡ length ms → map (λ (i : Item S). i.symbol) (pairs_of precision table xs ms) ≡ xs
  their_symbols [] ms same = refl
  their_symbols (x ∷ xs) [] same = absurd (omega arith)
  their_symbols (x ∷ xs) (m ∷ ms) same = ap (λ (ys : List S). x ∷ ys) (their_symbols xs ms (omega arith))
