-- The entries and the model of a `WeightTable`, and proofs that the entries make a table.
use Rattle.std.specs.Prelude.{◌≡◌, ℕ, ◌+◌, ◌*◌, ◌^◌, ◌≤◌, List, [], length, map}
use Rattle.constriction_base.specs.Tables.{IsTable, table_of, weights_between}
use Rattle.constriction_base.specs.Models.{Model}
use Rattle.constriction_base.specs.laws.Weights.{starts_make_table, two_entries}
use Rattle.constriction_base.specs.declared.weights.WeightTable.{WeightTable}

-- The entries: each symbol of a weight above 0, the start of its interval, and the interval's length.
abbrev pub entries : {Probability NonZero : Type 0} {precision : ℕ} {bits : _} {word : _} → WeightTable Probability precision NonZero bits word → List (ℕ × ℕ × ℕ)
entries {precision = precision} {word = word} t = table_of (weights_between (map word.number t.starts.items) (2 ^ precision))

-- The table keeps a reciprocal of each weight, so that no encoder divides.
abbrev pub HasReciprocals : {Probability NonZero : Type 0} {precision : ℕ} {bits : _} {word : _} → WeightTable Probability precision NonZero bits word → Type 0
HasReciprocals t = length t.symbol_rows.items ≡ length t.starts.items

-- The table keeps no row of a symbol, and no reciprocal.
abbrev pub HasNoReciprocals : {Probability NonZero : Type 0} {precision : ℕ} {bits : _} {word : _} → WeightTable Probability precision NonZero bits word → Type 0
HasNoReciprocals t = t.symbol_rows.items ≡ []

-- The table keeps at most eight rows of buckets for each symbol, and one more.
abbrev pub HasFewRows : {Probability NonZero : Type 0} {precision : ℕ} {bits : _} {word : _} → WeightTable Probability precision NonZero bits word → Type 0
HasFewRows t = length t.rows.items ≤ 8 * length t.starts.items + 1

-- The weight table as a model.
abbrev pub model_of : {Probability NonZero : Type 0} {precision : ℕ} {bits : _} {word : _} → WeightTable Probability precision NonZero bits word → Model ℕ
model_of {precision = precision} t = record { precision = precision; table = entries t }

-- The entries partition the numbers below 2 ^ precision.
pub entries_are_table : {Probability NonZero : Type 0} {precision : ℕ} {bits : _} {word : _} (t : WeightTable Probability precision NonZero bits word) → IsTable precision (entries t)
entries_are_table {precision = precision} {word = word} t = starts_make_table word.number precision t.starts.items t.has_symbols t.rising

-- Where the precision is all bits of a word, there are at least two entries.
pub entries_are_two : {Probability NonZero : Type 0} {precision : ℕ} {bits : _} {word : _} (t : WeightTable Probability precision NonZero bits word) → precision ≡ word.BITS → 2 ≤ length (entries t)
entries_are_two {precision = precision} {word = word} t all = two_entries word.number precision word.BITS t.starts.items t.has_symbols t.rising t.last all
