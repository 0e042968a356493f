-- Rows of symbols and guesses, made one after another and looked up.
use Rattle.std.proofs.Common.{◌≡◌, ℕ, zero, suc, ◌+◌, ◌-◌, ◌%◌, ◌^◌, ◌<◌, ◌≤◌, List, [], ◌∷◌, ◌++◌, Bool, length, get_or, map, take, sym, ◌∙◌, ap, subst, inl, inr, arith, length-append, pow-add, pow_pos, ◌*◌, ◌/◌}
use Rattle.std.specs.List.{sum_by}
use Rattle.std.proofs.Math.Nat.{div-lt_iff_lt-mul, mod-eq_of_lt}
use Rattle.std.proofs.Math.Pow.{pow_mono}
use Rattle.std.proofs.lemmas.Bool.{cases_lt}
use Rattle.std.proofs.lemmas.List.{get_or_append_left, get_or_push}
use Rattle.std.proofs.lemmas.List.Sums.{sum-map, sum_by_more, sum_by_more_le}
use Rattle.constriction_inputs.specs.Guided.{AreGuesses, AreRowsOfWeights, IsGuess, IsRowOfWeight}
use Rattle.constriction_inputs.specs.Weights.{IsTotal}
use Rattle.constriction_inputs.specs.declared.models.guided.Interval.{Interval}
use Rattle.constriction_base.specs.declared.weights.rows.SymbolRow.{SymbolRow}

-- ---- steps from symbol to symbol
-- a start above a number isn't that of the first symbol
pub behind_first : {W : Type 0} (number : W → ℕ) (ws : List W) (k l q : ℕ) → l ≡ sum_by number (take k ws) → q < l → 0 < k
behind_first number ws zero l q is above = absurd (omega (arith, is, above))
behind_first number ws (suc k) l q is above = omega arith

-- the start of the symbol before
pub start_before : {W : Type 0} (number : W → ℕ) (ws : List W) (k l : ℕ) (w : W) → 0 < k → k ≤ length ws → l ≡ sum_by number (take k ws)
    → sum_by number (take (k - 1) ws) + number (get_or ws (k - 1) w) ≡ l
start_before number ws k l w some within is =
    let same : k - 1 + 1 ≡ k = omega arith in
    sym (sum_by_more number ws (k - 1) w (omega (arith, some, within))) ∙ ap (λ (n : ℕ). sum_by number (take n ws)) same ∙ sym is

-- no weight is more than all of them
pub weight_most : {W : Type 0} (number : W → ℕ) (precision : ℕ) (ws : List W) (k : ℕ) (w : W) → IsTotal precision (map number ws) → k < length ws → number (get_or ws k w) ≤ 2 ^ precision
weight_most number precision ws k w total within = omega (arith, sum_by_more_le number ws k w within, sum-map number ws, total)

-- ---- rows of symbols
-- the sum of the weights before a symbol, as a word that may wrap behind the last weight above 0
pub next_left : {W : Type 0} (number : W → ℕ) (precision bits : ℕ) (ws : List W) (k left next : ℕ) (w : W) → precision ≤ bits → k < length ws
    → (sum_by number (take k ws) < 2 ^ precision → left ≡ sum_by number (take k ws)) → next ≡ (left + number (get_or ws k w)) % 2 ^ bits
    → sum_by number (take (k + 1) ws) < 2 ^ precision → next ≡ sum_by number (take (k + 1) ws)
next_left number precision bits ws k left next w fits within before is small =
    let more = sum_by_more number ws k w within in
    let here = before (omega (arith, more, small)) in
    let whole : left + number (get_or ws k w) ≡ sum_by number (take (k + 1) ws) = omega (arith, here, more) in
    is ∙ ap (λ (n : ℕ). n % 2 ^ bits) whole ∙ mod-eq_of_lt (omega (arith, small, pow_mono fits))

-- what stands before a weight above 0 is below the total
pub left_small : {W : Type 0} (number : W → ℕ) (precision : ℕ) (ws : List W) (k : ℕ) (w : W) → IsTotal precision (map number ws) → k < length ws → 0 < number (get_or ws k w) → sum_by number (take k ws) < 2 ^ precision
left_small number precision ws k w total within some = omega (arith, sum_by_more_le number ws k w within, some, sum-map number ws, total)

-- the rows of the first symbols
abbrev pub AreFirstRows : {P : Type 0} (number : P → ℕ) (ws : List P) (divides : Bool) (rows : List (SymbolRow P)) → Type 0
AreFirstRows number ws divides rows = (k : ℕ) (other : SymbolRow _) → k < length rows → IsRowOfWeight number ws divides k (get_or rows k other)

pub symbol_rows_push : {P : Type 0} (number : P → ℕ) (ws : List P) (divides : Bool) (rows : List (SymbolRow P)) (row : SymbolRow P) (i : ℕ) → length rows ≡ i
    → AreFirstRows number ws divides rows → IsRowOfWeight number ws divides i row → AreFirstRows number ws divides (rows ++ row ∷ [])
symbol_rows_push {P} number ws divides rows row i count are is k other within = elim (cases_lt k (length rows)) [
  | inl old ↦ subst (λ (r : SymbolRow P). IsRowOfWeight number ws divides k r) (sym (get_or_append_left rows (row ∷ []) other k old)) (are k other old)
  | inr new ↦
      let place : k ≡ i = omega (arith, length-append rows (row ∷ [])) in
      subst (λ (r : SymbolRow P). IsRowOfWeight number ws divides k r) (sym (get_or_push rows row other k (omega (arith, place, count))))
      (subst (λ (j : ℕ). IsRowOfWeight number ws divides j row) (sym place) is)
]

-- ---- guesses
pub guesses_push : {P : Type 0} (number : P → ℕ) (ws : List P) (intervals : List (Interval P)) (symbols : List ℕ) (interval : Interval P) (s : ℕ) → AreGuesses number ws intervals symbols
    → IsGuess number ws s interval.left interval.weight → AreGuesses number ws (intervals ++ interval ∷ []) (symbols ++ s ∷ [])
guesses_push {P} number ws intervals symbols interval s are is = record {
  counted = omega (arith, length-append intervals (interval ∷ []), length-append symbols (s ∷ []), are.counted);
  each = λ k symbol other within here there. elim (cases_lt k (length symbols)) [
    | inl old ↦ are.each k symbol other old (here ∙ get_or_append_left symbols (s ∷ []) symbol k old) (there ∙ get_or_append_left intervals (interval ∷ []) other k (omega (arith, old, are.counted)))
    | inr new ↦
        let same : symbol ≡ s = here ∙ get_or_push symbols s symbol k (omega (arith, within, new, length-append symbols (s ∷ []))) in
        let equal : other ≡ interval = there ∙ get_or_push intervals interval other k (omega (arith, within, new, length-append symbols (s ∷ []), are.counted)) in
        subst (λ (i : Interval P). IsGuess number ws symbol i.left i.weight) (sym equal) (subst (λ (n : ℕ). IsGuess number ws n interval.left interval.weight) (sym same) is)
  ];
}

pub no_guesses : {P : Type 0} (number : P → ℕ) (ws : List P) (intervals : List (Interval P)) (symbols : List ℕ) → intervals ≡ [] → symbols ≡ [] → AreGuesses number ws intervals symbols
no_guesses number ws intervals symbols none empty = record {
  counted = omega (arith, ap length none, ap length empty);
  each = λ k symbol interval within here there. absurd (omega (arith, within, ap length empty));
}

pub no_rows : {P : Type 0} (number : P → ℕ) (ws : List P) (divides : Bool) (rows : List (SymbolRow P)) → rows ≡ [] → AreRowsOfWeights number ws divides rows
no_rows number ws divides rows none = record { within = omega (arith, ap length none); each = λ k other within. absurd (omega (arith, within, ap length none)) }

-- the row at a place
pub row_at : {P : Type 0} (number : P → ℕ) (ws : List P) (divides : Bool) (rows : List (SymbolRow P)) (row : SymbolRow P) (k : ℕ) → AreRowsOfWeights number ws divides rows → k < length rows → row ≡ get_or rows k row → IsRowOfWeight number ws divides k row
row_at {P} number ws divides rows row k are within is = subst (λ (r : SymbolRow P). IsRowOfWeight number ws divides k r) (sym is) (are.each k row within)

-- ---- buckets
-- so many bits are left of a quantile
pub below_buckets : (q precision shift : ℕ) → shift ≤ precision → q < 2 ^ precision → q / 2 ^ shift < 2 ^ (precision - shift)
below_buckets q precision shift within below =
    let exponent : precision ≡ (precision - shift) + shift = omega arith in
    let split : 2 ^ precision ≡ 2 ^ (precision - shift) * 2 ^ shift = ap (λ (n : ℕ). 2 ^ n) exponent ∙ pow-add 2 (precision - shift) shift in
    (div-lt_iff_lt-mul (pow_pos shift)).1 (omega (arith, split, below))

-- one, moved up to a place within the bits
pub one_below : (one shift bits : ℕ) → one ≡ 1 → shift + 1 ≤ bits → one * 2 ^ shift < 2 ^ bits
one_below one shift bits is within =
    let all : 2 ^ (shift + 1) ≡ 2 ^ shift * 2 ^ 1 = pow-add 2 shift 1 in
    let power : one * 2 ^ shift ≡ 2 ^ shift = rw is (omega arith) in
    omega (arith, all, power, pow_pos shift, pow_mono within)
