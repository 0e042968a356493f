-- Range coding in unbounded numbers, without carries. `w` and `s` are the numbers of bits of a word and of a state. A
-- run describes a coder's interval without pending words, wraparound and carries. A coder stores the low end of its run
-- modulo `2 ^ s`.
use Rattle.std.specs.Prelude.{◌≡◌, ℕ, zero, suc, ◌+◌, ◌-◌, ◌*◌, ◌/◌, ◌%◌, ◌<◌, ◌≤◌, ◌^◌, ◌==◌, List, [], ◌∷◌, ◌++◌, nat_lt, if◌then◌else◌, slice_index, drop, ⊤}
use Rattle.constriction_base.specs.Steps.{Step}
use Rattle.constriction_base.specs.Digits.{fixed_digits}

-- An interval of `range` numbers from `low` on, after `moves` shifts by one word (renormalizations). In an encoder's
-- run, `low` in base `2 ^ w` consists of the words moved out of the state, followed by the state's lower end.
pub record Run : Type 0 where
  pub low : ℕ
  pub range : ℕ
  pub moves : ℕ

-- The step with these numbers: a precision in bits, and the start and the weight of a symbol.
abbrev pub step_of : ℕ → ℕ → ℕ → Step
step_of precision left p = record { precision = precision; left = left; p = p }

-- The run before the first step: all numbers below `2 ^ s` but the greatest.
abbrev pub initial : ℕ → Run
initial s = record { low = 0; range = 2 ^ s - 1; moves = 0 }

-- How many numbers of the interval belong to one quantile: the range divided by `2 ^ precision`, rounded down.
abbrev pub scale : Step → Run → ℕ
scale e r = r.range / 2 ^ e.precision

-- The part of the interval that belongs to the step's symbol.
abbrev pub cut : Step → Run → Run
cut e r = record { low = r.low + scale e r * e.left; range = scale e r * e.p; moves = r.moves }

-- Renormalizes: multiplies the low end and the range by `2 ^ w` if the range is below `2 ^ (s - w)`.
abbrev pub grown : ℕ → ℕ → Run → Run
grown w s r = if nat_lt r.range (2 ^ (s - w)) then record { low = r.low * 2 ^ w; range = r.range * 2 ^ w; moves = suc r.moves } else r

-- The run after one step: the part of the interval that belongs to the symbol, renormalized.
abbrev pub narrowed_by : ℕ → ℕ → Step → Run → Run
narrowed_by w s e r = grown w s (cut e r)

-- The run after all steps of a list, the first step first.
abbrev pub run : ℕ → ℕ → List Step → Run → Run
run w s [] r = r
run w s (e ∷ es) r = run w s es (narrowed_by w s e r)

-- ---- sealing

-- The least number `n` for which `n * 2 ^ (s - w)` is at least the low end of the interval.
abbrev pub seal_number : ℕ → ℕ → Run → ℕ
seal_number w s r = (r.low + (2 ^ (s - w) - 1)) / 2 ^ (s - w)

-- The words that an encoder exports for a run, in writing order. If no symbol was coded, these are the words moved out
-- so far. Otherwise they are the digits of `n`, which is `seal_number`, in base `2 ^ w`. A zero word follows if and
-- only if `(n + 1) * 2 ^ (s - w)` is above the end of the interval, `low + range`.
abbrev pub sealed : ℕ → ℕ → Run → List ℕ
sealed w s r =
    if r.range == 2 ^ s - 1 then fixed_digits (2 ^ w) r.moves (r.low / 2 ^ s)
    else (fixed_digits (2 ^ w) (suc r.moves) (seal_number w s r)
    ++ (if (r.low + r.range) / 2 ^ (s - w) == seal_number w s r then 0 ∷ [] else []))

-- ---- reading

-- The number whose digits in base `b` are the first `m` words. Past the last word, the digits are 0.
abbrev pub number_of_first : ℕ → ℕ → List ℕ → ℕ
number_of_first b zero ws = 0
number_of_first b (suc m) ws = number_of_first b m ws * b + slice_index ws m

-- The number that a decoder has read after `n` moves, formed by `n` words and the `s / w` words after them.
abbrev pub number_read : ℕ → ℕ → List ℕ → ℕ → ℕ
number_read w s ws n = number_of_first (2 ^ w) (n + s / w) ws

-- The distance of the number read from the low end of the interval, modulo `2 ^ s`.
abbrev pub offset : ℕ → ℕ → List ℕ → Run → ℕ
offset w s ws r = (number_read w s ws r.moves + (2 ^ s - r.low % 2 ^ s)) % 2 ^ s

-- The quantile that a decoder reads at this run lies in the interval of the step's symbol.
pub record QuantileInInterval (w s : ℕ) (ws : List ℕ) (e : Step) (r : Run) : Type 0 where
  pub from : e.left ≤ offset w s ws r / scale e r
  pub below : offset w s ws r / scale e r < e.left + e.p

-- A decoder that reads the words from this run on takes these steps, in order.
abbrev pub ReadAs : ℕ → ℕ → List ℕ → List Step → Run → Type 0
ReadAs w s ws [] r = ⊤
ReadAs w s ws (e ∷ es) r = QuantileInInterval w s ws e r × ReadAs w s ws es (narrowed_by w s e r)

-- The number read from the words lies in the interval.
pub record Within (w s : ℕ) (ws : List ℕ) (r : Run) : Type 0 where
  pub from : r.low ≤ number_read w s ws r.moves
  pub below : number_read w s ws r.moves < r.low + r.range

-- The bounds that hold for every run that starts at `initial`.
pub record IsInterval (w s : ℕ) (r : Run) : Type 0 where
  pub least : 2 ^ (s - w) ≤ r.range
  pub fits : r.range < 2 ^ s
  pub inside : r.low + r.range < 2 ^ s * (2 ^ w) ^ r.moves

-- A decoder that has reached this run in the words has this lower end, range, point and list of remaining words.
pub record IsAt (w s : ℕ) (ws : List ℕ) (r : Run) (lower range point : ℕ) (rest : List ℕ) : Type 0 where
  pub lower_is : lower ≡ r.low % 2 ^ s
  pub range_is : range ≡ r.range
  pub point_is : point ≡ number_read w s ws r.moves % 2 ^ s
  pub rest_is : rest ≡ drop (r.moves + s / w) ws
