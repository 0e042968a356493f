-- Lists of the rows of quantiles.
use Rattle.std.proofs.Common.{◌≡◌, ℕ, ◌+◌, ◌<◌, ◌≤◌, ◌^◌, List, [], ◌∷◌, ◌++◌, inl, inr, refl, arith, sym, subst, length-append}
use Rattle.std.specs.Prelude.{slice_index_or}
use Rattle.std.proofs.lemmas.Bool.{cases_lt}
use Rattle.std.proofs.lemmas.List.{get_or_push, get_or_append_left}
use Rattle.constriction_base.specs.Tables.{Has, Follow, IsTable, Covers}
use Rattle.constriction_base.proofs.Entries.{in_range, one_at}
use Rattle.constriction_models.specs.declared.lookup.Row.{Row}
use Rattle.constriction_models.specs.Lookup.{IsRowAt, AreRows, HasLowSymbols}

-- an entry that holds a quantile is the one of its row
pub row_of_entry : {P N : Type 0} (number : P → ℕ) (length_of : N → ℕ) (precision : ℕ) (table : List (ℕ × ℕ × ℕ)) (listed : ℕ) (row : Row P N) (q : ℕ) → IsTable precision table → Has table listed (number row.left) (length_of row.weight) → Covers (number row.left) (length_of row.weight) q
    → IsRowAt number length_of table listed row q
row_of_entry number length_of precision table listed row q is has covers symbol left p theirs holds =
    one_at 0 (2 ^ precision) q table listed symbol (number row.left) left (length_of row.weight) p is.follow has theirs covers holds

-- some entry holds each quantile
pub record IsHeld (table : List (ℕ × ℕ × ℕ)) (q : ℕ) : Type 0 where
  pub symbol : ℕ
  pub left : ℕ
  pub weight : ℕ
  pub has : Has table symbol left weight
  pub covers : Covers left weight q

pub held : (low high q : ℕ) (es : List (ℕ × ℕ × ℕ)) → Follow low es high → low ≤ q → q < high → IsHeld es q
held low high q [] follow from below = absurd (omega (arith, follow))
held low high q (e ∷ es) follow from below =
    elim (cases_lt q (low + e.2)) [
      | inl here ↦ record { symbol = e.0; left = e.1; weight = e.2; has = inl refl; covers = (omega (arith, follow.0), omega (arith, follow.0)) }
      | inr later ↦ (let more = held (low + e.2) high q es follow.2 later below in record { symbol = more.symbol; left = more.left; weight = more.weight; has = inr more.has; covers = more.covers })
    ]

-- so the row of a quantile is an entry that holds it
pub entry_of_row : {P N : Type 0} (number : P → ℕ) (length_of : N → ℕ) (precision : ℕ) (table : List (ℕ × ℕ × ℕ)) (listed : ℕ) (row : Row P N) (q : ℕ) → IsTable precision table → q < 2 ^ precision → IsRowAt number length_of table listed row q
    → Has table listed (number row.left) (length_of row.weight) × Covers (number row.left) (length_of row.weight) q
entry_of_row number length_of precision table listed row q is inside at =
    let some = held 0 (2 ^ precision) q table is.follow (omega arith) inside in
    let same = at some.symbol some.left some.weight some.has some.covers in
    (rw (same.0, same.1, same.2) some.has, rw (same.1, same.2) some.covers)

-- the symbol and the row of a quantile, and where its interval ends
pub record IsCurrentRow {P N : Type 0} (number : P → ℕ) (length_of : N → ℕ) (table : List (ℕ × ℕ × ℕ)) (listed : ℕ) (row : Row P N) (end q : ℕ) : Type 0 where
  pub entry : Has table listed (number row.left) (length_of row.weight)
  pub covers : Covers (number row.left) (length_of row.weight) q
  pub ends : end ≡ number row.left + length_of row.weight
  pub low : listed < 65536

-- one more is made
pub one_more_row : {P N : Type 0} (number : P → ℕ) (length_of : N → ℕ) (table : List (ℕ × ℕ × ℕ)) (symbols more : List ℕ) (rows new : List (Row P N)) (count listed : ℕ) (row : Row P N) → AreRows number length_of table symbols rows count → IsRowAt number length_of table listed row count → more ≡ symbols ++ listed ∷ [] → new ≡ rows ++ row ∷ []
    → AreRows number length_of table more new (count + 1)
one_more_row number length_of table symbols more rows new count listed row are is told pushed = rw (told, pushed) (record {
  symbol_count = omega (arith, length-append symbols (listed ∷ []), are.symbol_count);
  row_count = omega (arith, length-append rows (row ∷ []), are.row_count);
  row_at = λ q inside none other. elim (cases_lt q count) [
    | inl before ↦ (
        let first = subst (λ x. IsRowAt number length_of table (slice_index_or symbols q none) x q) (sym (get_or_append_left rows (row ∷ []) other q (omega (arith, are.row_count)))) (are.row_at q before none other) in
        subst (λ x. IsRowAt number length_of table x (slice_index_or (rows ++ row ∷ []) q other) q) (sym (get_or_append_left symbols (listed ∷ []) none q (omega (arith, are.symbol_count)))) first)
    | inr past ↦ (
        let last : count ≡ q = omega arith in
        let first = subst (λ x. IsRowAt number length_of table listed x count) (sym (get_or_push rows row other count are.row_count)) is in
        let both = subst (λ x. IsRowAt number length_of table x (slice_index_or (rows ++ row ∷ []) count other) count) (sym (get_or_push symbols listed none count are.symbol_count)) first in
        subst (λ (n : ℕ). IsRowAt number length_of table (slice_index_or (symbols ++ listed ∷ []) n none) (slice_index_or (rows ++ row ∷ []) n other) n) last both)
  ];
})

-- the symbols of the first quantiles are low
abbrev pub AreLowTo : List (ℕ × ℕ × ℕ) → ℕ → Type 0
AreLowTo table count = (symbol left weight q : ℕ) → Has table symbol left weight → Covers left weight q → q < count → symbol < 65536

pub one_more_low : (precision : ℕ) (table : List (ℕ × ℕ × ℕ)) (symbol left weight count : ℕ) → IsTable precision table → AreLowTo table count → Has table symbol left weight → Covers left weight count → symbol < 65536 → AreLowTo table (count + 1)
one_more_low precision table symbol left weight count is low has covers small s l p q theirs holds inside =
    elim (cases_lt q count) [
      | inl before ↦ low s l p q theirs holds before
      | inr past ↦ (
          let last : count ≡ q = omega arith in
          let same : symbol ≡ s = (one_at 0 (2 ^ precision) q table symbol s left l weight p is.follow has theirs (subst (λ (n : ℕ). Covers left weight n) last covers) holds).0 in
          omega (arith, same, small))
    ]

-- so all are, where the first quantiles are all
pub all_low : (precision count : ℕ) (table : List (ℕ × ℕ × ℕ)) → IsTable precision table → count ≡ 2 ^ precision → AreLowTo table count → HasLowSymbols table
all_low precision count table is all low symbol left weight has =
    let range = in_range 0 (2 ^ precision) table symbol left weight is.follow has in
    low symbol left weight left has (omega arith, omega (arith, range.1)) (omega (arith, range.1, range.2, all))
