-- Entries of tables, and starts that grow by one.
use Rattle.std.proofs.Common.{◌≡◌, ℕ, ◌+◌, ◌-◌, ◌%◌, ◌<◌, ◌≤◌, ◌^◌, List, [], ◌∷◌, ◌++◌, slice_index, inl, inr, arith, sym, ap, subst, ◌∙◌, length-append, length}
use Rattle.std.proofs.Math.Nat.{mod-eq_of_lt}
use Rattle.std.proofs.lemmas.Bool.{eq-eqb, cases_lt}
use Rattle.std.proofs.lemmas.Bool.Decides.{eqb_tells}
use Rattle.std.proofs.lemmas.List.{get_or_push, get_or_append_left}
use Rattle.constriction_base.specs.Tables.{Has, AreDistinct}
use Rattle.constriction_bench.specs.Starts.{interval_in, AreStarts}

same_symbol : (s t l p : ℕ) → s ≡ t → ◌≡◌ {A = ℕ × ℕ × ℕ} (s, l, p) (t, l, p)
same_symbol s t l p e = cc

-- an interval that isn't empty is an entry
pub entry_has : (es : List (ℕ × ℕ × ℕ)) (k : ℕ) → 0 < (interval_in es k).1 → Has es k (interval_in es k).0 (interval_in es k).1
entry_has [] k some = absurd (omega arith)
entry_has (e ∷ es) k some =
    elim (eqb_tells e.0 k) [ inl same ↦ rw same.0 (inl (same_symbol e.0 k e.1 e.2 same.1)) | inr other ↦ rw other.0 (inr (entry_has es k (rw other.0 at some))) ]

-- an entry is the one that its symbol has
pub entry_one : (es : List (ℕ × ℕ × ℕ)) (k l p : ℕ) → AreDistinct es → Has es k l p → ((interval_in es k).0 ≡ l) × ((interval_in es k).1 ≡ p)
entry_one [] k l p distinct has = absurd has
entry_one (e ∷ es) k l p distinct (inl is) =
    let same : e.0 ≡ k = ap (λ (x : ℕ × ℕ × ℕ). x.0) is in
    rw (eq-eqb e.0 k same) (ap (λ (x : ℕ × ℕ × ℕ). x.1) is, ap (λ (x : ℕ × ℕ × ℕ). x.2) is)
entry_one (e ∷ es) k l p distinct (inr has) =
    elim (eqb_tells e.0 k) [ inl same ↦ absurd (distinct.0 l p (subst (λ (s : ℕ). Has es s l p) (sym same.1) has)) | inr other ↦ rw other.0 (entry_one es k l p distinct.1 has) ]

-- one more symbol, whose interval begins where the starts end
pub one_more : (precision : ℕ) (table : List (ℕ × ℕ × ℕ)) (starts : List ℕ) (count l p end : ℕ) → AreStarts precision table starts count → AreDistinct table
    → Has table count l p → l ≡ slice_index starts count → 0 < p → end ≡ l + p → end ≤ 2 ^ precision → AreStarts precision table (starts ++ end ∷ []) (count + 1)
one_more precision table starts count l p end are distinct has begins some ends within =
    let is = entry_one table count l p distinct has in
    let old : (k : ℕ) → k < count + 1 → slice_index (starts ++ end ∷ []) k ≡ slice_index starts k = λ k h. get_or_append_left starts (end ∷ []) 0 k (omega (arith, are.len)) in
    let last : slice_index (starts ++ end ∷ []) (count + 1) ≡ end = get_or_push starts end 0 (count + 1) are.len in
    record {
      len = omega (arith, length-append starts (end ∷ []), are.len);
      begins = λ k h. elim (cases_lt k count) [ inl below ↦ omega (arith, old k h, are.begins k below) | inr past ↦ at_end count k (omega arith) (λ n. (interval_in table n).0 ≡ slice_index (starts ++ end ∷ []) n) (omega (arith, old count (omega arith), is.0)) ];
      ends = λ k h. elim (cases_lt k count) [ inl below ↦ omega (arith, old k h, old (k + 1) (omega arith), are.ends k below) | inr past ↦ at_end count k (omega arith) (λ n. slice_index (starts ++ end ∷ []) n + (interval_in table n).1 ≡ slice_index (starts ++ end ∷ []) (n + 1)) (omega (arith, old count (omega arith), is.1, last)) ];
      some = λ k h. elim (cases_lt k count) [ inl below ↦ are.some k below | inr past ↦ at_end count k (omega arith) (λ n. 0 < (interval_in table n).1) (omega (arith, is.1)) ];
      within = λ k h. elim (cases_lt k (count + 1)) [ inl below ↦ omega (arith, old k below, are.within k (omega arith)) | inr past ↦ at_end (count + 1) k (omega arith) (λ n. slice_index (starts ++ end ∷ []) n ≤ 2 ^ precision) (omega (arith, last)) ];
    }
  where
    at_end : (m k : ℕ) → m ≡ k → (P : ℕ → Type 0) → P m → P k
    at_end m k e P h = subst P e h

-- the interval of a symbol is what lies between two starts
pub has_between : (precision : ℕ) (table : List (ℕ × ℕ × ℕ)) (starts : List ℕ) (count k l p : ℕ) → AreStarts precision table starts count → k < count
    → l ≡ slice_index starts k → l + p ≡ slice_index starts (k + 1) → Has table k l p
has_between precision table starts count k l p are known left right =
    let weight : (interval_in table k).1 ≡ p = omega (arith, are.begins k known, are.ends k known) in
    let has = entry_has table k (are.some k known) in
    rw (are.begins k known ∙ sym left, weight) at has

-- a number above 0 that fits is the same among those of its type
pub same_nonzero : (top x y : ℕ) → x ≡ y → 0 < y → y ≤ top → (x - 1) % top + 1 ≡ y
same_nonzero top x y e some fits =
    let below : y - 1 < top = omega arith in
    rw (e, mod-eq_of_lt below) (omega arith)

-- one more symbol is listed
pub listed_more : (P : ℕ → ℕ → Type 0) (symbols more : List ℕ) (n symbol : ℕ) → length symbols ≡ n → ((q : ℕ) → q < n → P (slice_index symbols q) q)
    → more ≡ symbols ++ symbol ∷ [] → P symbol n → (length more ≡ n + 1) × ((q : ℕ) → q < n + 1 → P (slice_index more q) q)
listed_more P symbols more n symbol len all is new = rw is (
  omega (arith, length-append symbols (symbol ∷ []), len),
  λ q h. elim (cases_lt q n) [
    | inl below ↦ rw (get_or_append_left symbols (symbol ∷ []) 0 q (omega (arith, len, below))) (all q below)
    | inr past ↦
        let same : q ≡ n = omega arith in
        rw (same, get_or_push symbols symbol 0 n len) new
  ],
)
