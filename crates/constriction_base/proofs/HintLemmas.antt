-- Hints and rows, one at a time.
use Rattle.std.proofs.Common.{◌≡◌, ℕ, ◌+◌, ◌*◌, ◌<◌, ◌≤◌, List, [], ◌∷◌, ◌++◌, length, map, get_or, refl, sym, ◌∙◌, subst, inl, inr, ap, arith, length-append, below_more, add-one}
use Rattle.std.proofs.lemmas.List.{get_or_push, get_or_append_left, get_or-map, length-map, map_push}
use Rattle.std.proofs.lemmas.Bool.{cases_lt}
use Rattle.constriction_base.specs.Tables.{IsRising, weights_between}
use Rattle.constriction_base.specs.laws.Weights.{ends_inside, ends_at}
use Rattle.constriction_base.specs.Hints.{IsHint, AreHints, IsBucketRow, AreBucketRows}
use Rattle.constriction_base.specs.declared.weights.rows.Row.{Row}
use Rattle.constriction_base.proofs.Entries.{ends}

-- no hint yet
pub no_hints : (starts : List ℕ) (high width : ℕ) → AreHints starts high width []
no_hints starts high width = record { each = λ k h. absurd (omega arith); rising = λ k h. absurd (omega arith) }

-- one more hint, no lower than those before it
pub hints_push : (starts : List ℕ) (high width : ℕ) (hints : List ℕ) (symbol : ℕ) → AreHints starts high width hints
    → ((k : ℕ) → k < length hints → get_or hints k 0 ≤ symbol) → IsHint starts high (length hints * width) symbol
    → AreHints starts high width (hints ++ symbol ∷ [])
hints_push starts high width hints symbol before lower hint = record { each = each; rising = rising }
  where
    len : length (hints ++ symbol ∷ []) ≡ length hints + 1
    len = length-append hints (symbol ∷ [])

    old : (k : ℕ) → k < length hints → get_or (hints ++ symbol ∷ []) k 0 ≡ get_or hints k 0
    old k h = get_or_append_left hints (symbol ∷ []) 0 k h

    new : get_or (hints ++ symbol ∷ []) (length hints) 0 ≡ symbol
    new = get_or_push hints symbol 0 (length hints) refl

    below : (k : ℕ) → k < length hints + 1 → IsHint starts high (k * width) (get_or (hints ++ symbol ∷ []) k 0)
    below = below_more (λ k. IsHint starts high (k * width) (get_or (hints ++ symbol ∷ []) k 0)) (length hints)
        (λ k h. rw (old k h) (before.each k h))
        (rw new hint)

    each : (k : ℕ) → k < length (hints ++ symbol ∷ []) → IsHint starts high (k * width) (get_or (hints ++ symbol ∷ []) k 0)
    each k h = below k (omega (arith, len))

    up : (k : ℕ) → k < length hints + 1 → (j : ℕ) → k ≡ j + 1 → get_or (hints ++ symbol ∷ []) j 0 ≤ get_or (hints ++ symbol ∷ []) k 0
    up = below_more (λ k. (j : ℕ) → k ≡ j + 1 → get_or (hints ++ symbol ∷ []) j 0 ≤ get_or (hints ++ symbol ∷ []) k 0) (length hints)
        (λ k h j e. omega (arith, old k h, old j (omega (arith, e)), before.rising j (omega (arith, e)), ap (λ (n : ℕ). get_or hints n 0) e))
        (λ j e. omega (arith, new, old j (omega (arith, e)), lower j (omega (arith, e))))

    rising : (k : ℕ) → k + 1 < length (hints ++ symbol ∷ []) → get_or (hints ++ symbol ∷ []) k 0 ≤ get_or (hints ++ symbol ∷ []) (k + 1) 0
    rising k h = up (k + 1) (omega (arith, len)) k refl

-- the symbol of a quantile lies between the hints of its place and of the next
pub hints_enclose : (starts : List ℕ) (high width : ℕ) (hints : List ℕ) (k q low top : ℕ) → AreHints starts high width hints → k + 1 < length hints
    → k * width ≤ q → q < (k + 1) * width → low ≡ get_or hints k 0 → top ≡ get_or hints (k + 1) 0
    → (low < top + 1) × (top + 1 ≤ length starts) × (get_or starts low 0 ≤ q) × (q < get_or starts (top + 1) high)
hints_enclose starts high width hints k q low top are within from below at_low at_top =
    let first : IsHint starts high (k * width) low = rw at_low (are.each k (omega arith)) in
    let next : IsHint starts high ((k + 1) * width) top = rw at_top (are.each (k + 1) within) in
    (omega (arith, at_low, at_top, are.rising k within), omega (arith, next.known), omega (arith, first.from), rw add-one (omega (arith, next.to)))

-- a symbol that begins at or below a place, and after which none does, is its hint
pub hint_of : (starts : List ℕ) (high place symbol : ℕ) → symbol < length starts → get_or starts symbol 0 ≤ place → place ≤ high
    → (symbol + 1 < length starts → place < get_or starts (symbol + 1) 0) → IsHint starts high place symbol
hint_of starts high place symbol known from within next = elim (cases_lt (symbol + 1) (length starts)) [
  | inl more ↦ record { known = known; from = from; to = omega (arith, ends_inside starts high symbol (symbol + 1) refl more, next more) }
  | inr end ↦ record { known = known; from = from; to = omega (arith, ends_at starts high symbol end) }
]

-- where none is above a symbol, none is after it has become a hint too
pub none_above : (hints : List ℕ) (symbol : ℕ) → ((k : ℕ) → k < length hints → get_or hints k 0 ≤ symbol)
    → (k : ℕ) → k < length (hints ++ symbol ∷ []) → get_or (hints ++ symbol ∷ []) k 0 ≤ symbol
none_above hints symbol lower k h = below k (omega (arith, length-append hints (symbol ∷ [])))
  where
    below : (k : ℕ) → k < length hints + 1 → get_or (hints ++ symbol ∷ []) k 0 ≤ symbol
    below = below_more (λ k. get_or (hints ++ symbol ∷ []) k 0 ≤ symbol) (length hints)
        (λ k h. omega (arith, lower k h, get_or_append_left hints (symbol ∷ []) 0 k h))
        (omega (arith, get_or_push hints symbol 0 (length hints) refl))

-- ---- rows

-- the symbols of rows
abbrev pub symbols_of : {P : Type 0} → List (Row P) → List ℕ
symbols_of rows = map (λ (row : Row _). row.symbol) rows

-- one more row, whose symbol is the next hint
pub rows_hint : {P : Type 0} (starts : List ℕ) (high width : ℕ) (rows : List (Row P)) (row : Row P) → AreHints starts high width (symbols_of rows)
    → ((k : ℕ) → k < length (symbols_of rows) → get_or (symbols_of rows) k 0 ≤ row.symbol) → IsHint starts high (length rows * width) row.symbol
    → AreHints starts high width (symbols_of (rows ++ row ∷ []))
rows_hint {P} starts high width rows row before lower hint =
    rw (map_push (λ (r : Row P). r.symbol) rows row) (hints_push starts high width (symbols_of rows) row.symbol before lower (rw (length-map rows (λ (r : Row P). r.symbol)) hint))

pub rows_none_above : {P : Type 0} (rows : List (Row P)) (row : Row P) → ((k : ℕ) → k < length (symbols_of rows) → get_or (symbols_of rows) k 0 ≤ row.symbol)
    → (k : ℕ) → k < length (symbols_of (rows ++ row ∷ [])) → get_or (symbols_of (rows ++ row ∷ [])) k 0 ≤ row.symbol
rows_none_above {P} rows row lower = rw (map_push (λ (r : Row P). r.symbol) rows row) (none_above (symbols_of rows) row.symbol lower)

-- and whose weight is that of its symbol
pub rows_push : {P : Type 0} (number : P → ℕ) (starts : List ℕ) (high : ℕ) (rows : List (Row P)) (row : Row P) → AreBucketRows number starts high rows → IsBucketRow number starts high row
    → AreBucketRows number starts high (rows ++ row ∷ [])
rows_push {P} number starts high rows row before is k other within = elim (cases_lt k (length rows)) [
  | inl old ↦ subst (λ (r : Row P). IsBucketRow number starts high r) (sym (get_or_append_left rows (row ∷ []) other k old)) (before k other old)
  | inr new ↦ subst (λ (r : Row P). IsBucketRow number starts high r) (sym (get_or_push rows row other k (omega (arith, length-append rows (row ∷ []))))) is
]

-- the symbol of a row that was read
pub row_symbol : {P : Type 0} (rows : List (Row P)) (row : Row P) (k : ℕ) → k < length rows → row ≡ get_or rows k row → row.symbol ≡ get_or (symbols_of rows) k 0
row_symbol {P} rows row k within is = ap (λ (r : Row P). r.symbol) is ∙ sym (get_or-map (λ (r : Row P). r.symbol) rows k row 0 within)

-- it is the hint of its place
pub row_hint : {P : Type 0} (starts : List ℕ) (high width : ℕ) (rows : List (Row P)) (row : Row P) (k : ℕ) → AreHints starts high width (symbols_of rows) → k < length rows
    → row ≡ get_or rows k row → IsHint starts high (k * width) row.symbol
row_hint {P} starts high width rows row k are within is =
    rw (row_symbol rows row k within is) (are.each k (omega (arith, within, length-map rows (λ (r : Row P). r.symbol))))

-- its weight
pub row_weight : {P : Type 0} (number : P → ℕ) (starts : List ℕ) (high : ℕ) (rows : List (Row P)) (row : Row P) (k : ℕ) → AreBucketRows number starts high rows → k < length rows
    → row ≡ get_or rows k row → IsBucketRow number starts high row
row_weight {P} number starts high rows row k are within is = subst (λ (r : Row P). IsBucketRow number starts high r) (sym is) (are k row within)

-- and it begins at or below each quantile of its bucket
pub row_from : {P : Type 0} (starts : List ℕ) (high width : ℕ) (rows : List (Row P)) (row : Row P) (k q l : ℕ) → AreHints starts high width (symbols_of rows)
    → k < length rows → row ≡ get_or rows k row → k * width ≤ q → l ≡ get_or starts row.symbol 0 → l ≤ q
row_from starts high width rows row k q l hinted within is above left =
    omega (arith, above, left, (row_hint starts high width rows row k hinted within is).from)

-- a quantile behind a symbol's interval lies at or behind the next symbol's start
pub after_symbol : (starts : List ℕ) (high symbol top l w q : ℕ) → IsRising starts high → symbol < top + 1 → top + 1 ≤ length starts
    → l ≡ get_or starts symbol 0 → w ≡ get_or (weights_between starts high) symbol 0 → l + w ≤ q → q < get_or starts (top + 1) high
    → (symbol + 1 < top + 1) × (get_or starts (symbol + 1) 0 ≤ q)
after_symbol starts high symbol top l w q rising order within left weight past below =
    let end = ends starts high symbol l w rising (omega arith) left weight in
    elim (cases_lt symbol top) [
      | inl less ↦ (omega arith, omega (arith, past, end, ends_inside starts high symbol (symbol + 1) refl (omega arith)))
      | inr more ↦ (
          let same : top ≡ symbol = omega arith in
          let upper : q < get_or starts (symbol + 1) high = rw same at below in
          absurd (omega (arith, past, end, rw add-one at upper)))
    ]

-- a quantile behind the interval of its bucket's row, and its bounds
pub after_row : {P : Type 0} (number : P → ℕ) (starts : List ℕ) (high width : ℕ) (rows : List (Row P)) (row : Row P) (k q l top : ℕ) → AreHints starts high width (symbols_of rows)
    → AreBucketRows number starts high rows → IsRising starts high → k + 1 < length rows → row ≡ get_or rows k row → top ≡ get_or (symbols_of rows) (k + 1) 0
    → k * width ≤ q → q < (k + 1) * width → l ≡ get_or starts row.symbol 0 → l + number row.weight ≤ q
    → (row.symbol + 1 < top + 1) × (get_or starts (row.symbol + 1) 0 ≤ q) × (top + 1 ≤ length starts) × (q < get_or starts (top + 1) high)
after_row {P} number starts high width rows row k q l top hinted listed rising more is at_top above below left past =
    let within : k < length rows = omega (arith, more) in
    let h = hints_enclose starts high width (symbols_of rows) k q row.symbol top hinted (omega (arith, more, length-map rows (λ (r : Row P). r.symbol))) above below
    (row_symbol rows row k within is) at_top in
    let next = after_symbol starts high row.symbol top l (number row.weight) q rising h.0 h.1 left (row_weight number starts high rows row k listed within is) past h.3 in
    (next.0, next.1, h.1, h.3)
