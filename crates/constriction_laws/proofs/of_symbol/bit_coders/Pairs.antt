-- Symbols that have a codebook each: what iterators over two slices gave, and what is read.
use Rattle.std.specs.Iterator.{Yields, Drains}
use Rattle.std.specs.Iterator.Adapters.{zip_first, zip_second, zip_steps}
use Rattle.std.specs.Slice.Iter.{iter_rest, iter_steps}
use Rattle.std.specs.declared.iter.Zip.{Zip}
use Rattle.std.specs.List.{zip}
use Rattle.std.specs.Prelude.{drop}
use Rattle.std.proofs.Common.{◌≡◌, ◌∙◌, Bool, Bor, Iter, Option, None, Result, Ok, List, [], ◌∷◌, ◌++◌, inl, inr, length, map, refl, sym, ap, ap₂, subst, append-nil}
use Rattle.constriction_base.specs.declared.errors.CoderError.{CoderError}
use Rattle.constriction_base.proofs.Trace.{Trace-more}
use Rattle.constriction_symbol.specs.Codewords.{ReadsSymbol}
use Rattle.constriction_symbol.specs.declared.codebooks.SymbolCodeError.{SymbolCodeError}
use Rattle.constriction_symbol.specs.Lists.{ReadsPairs}
use Rattle.constriction_base.proofs.FromBack.{none_left}
use Rattle.constriction_laws.proofs.ListsGiven.{zip_more}
use Rattle.constriction_laws.proofs.PairCalls.{both_now, rest_of}

-- ---- what an iterator over two slices gave
module _ {A B : Type 0} where
  zip_none : (xs : List A) (ys : List B) → ys ≡ [] → zip xs ys ≡ []
  zip_none [] ys none = refl
  zip_none (x ∷ xs) [] none = refl
  zip_none (x ∷ xs) (y ∷ ys) none = absurd cc

  pairs_from_front : (i : Zip (Iter A) (Iter B)) (xs : List (Bor A × Bor B)) (j : Zip (Iter A) (Iter B)) → Yields (zip_steps iter_steps iter_steps) i xs j → rest_of i ≡ map both_now xs ++ rest_of j
  pairs_from_front i [] j run = ap rest_of run
  pairs_from_front i (x ∷ xs) j run =
      ap₂ (λ (us : List A) (bs : List B). zip us bs) run.1.0 run.1.1 ∙ ap (λ (ps : List (A × B)). both_now x ∷ ps) (pairs_from_front run.0 xs j run.2)

  -- where it ended, no pair is left
  no_pair_left : (i j : Zip (Iter A) (Iter B)) → zip_steps iter_steps iter_steps i None j → rest_of i ≡ []
  no_pair_left i j (inl (u, ended)) = ap (λ (us : List A). zip us (iter_rest (zip_second i))) (none_left (iter_rest (zip_first i)) ended.0)
  no_pair_left i j (inr (u, ended)) = zip_none (iter_rest (zip_first i)) (iter_rest (zip_second i)) (none_left (iter_rest (zip_second i)) ended.0)

  pub all_pairs : (i : Zip (Iter A) (Iter B)) (xs : List (Bor A × Bor B)) → Drains (zip_steps iter_steps iter_steps) i xs → map both_now xs ≡ rest_of i
  all_pairs i xs run =
      let front = pairs_from_front i xs run.1.0 run.1.1 in
      let ended = no_pair_left run.1.0 run.0 run.1.2 in
      sym (append-nil (map both_now xs)) ∙ (ap (λ (ps : List (A × B)). map both_now xs ++ ps) (sym ended) ∙ sym front)

-- ---- one symbol more that is read
pub reads_pairs_more : {I S K V E : Type 0} (next : I → Option (Result Bool E) → I → Type 0) (codeword : K → S → Option (List Bool)) (reads_on : K → List Bool → Type 0) (is_invalid : K → List Bool → V → Type 0)
    (books : List K) (old : I) (xs : List S) (mid : I) (x : S) (book : K) (rest : List K) (answer : Result S (CoderError (SymbolCodeError V) E)) (new : I)
    → ReadsPairs next codeword reads_on is_invalid (zip xs books) old mid → drop (length xs) books ≡ book ∷ rest → answer ≡ Ok x
    → ReadsSymbol next (codeword book) (reads_on book) (is_invalid book) mid answer new
    → ReadsPairs next codeword reads_on is_invalid (zip (xs ++ x ∷ []) books) old new
reads_pairs_more {I} {S} {K} {V} {E} next codeword reads_on is_invalid books old xs mid x book rest answer new all left given step =
    let one : ReadsSymbol next (codeword book) (reads_on book) (is_invalid book) mid (Ok x) new = subst (λ (r : Result S (CoderError (SymbolCodeError V) E)). ReadsSymbol next (codeword book) (reads_on book) (is_invalid book) mid r new) given step in
    subst (λ (ps : List (S × K)). ReadsPairs next codeword reads_on is_invalid ps old new) (sym (zip_more xs books x book rest left))
    (Trace-more (λ (pair : S × K) (before after : I). ReadsSymbol next (codeword pair.1) (reads_on pair.1) (is_invalid pair.1) before (Ok pair.0) after) (zip xs books) (x, book) old mid new all one)
