use Rattle.std.proofs.Common.{◌≡◌, ℕ, List, ◌+◌, ◌-◌, length, map, take, ap, ◌∙◌, arith}
use Rattle.std.specs.Prelude.{sum_by}
use Rattle.std.proofs.Math.Pow.{pow_mono}
use Rattle.std.proofs.lemmas.List.{length-take-le, length-map, take-take}
use Rattle.constriction_base.specs.Tables.{Sums, IsLastSymbol}
use Rattle.constriction_base.proofs.Sums.{sums_of_numbers, last_of_numbers, sums_rise, same_table}
use Rattle.constriction_base.proofs.Results.{none_made, either_way}
use Rattle.constriction_base.proofs.weights.WeightTable.for_decoding.Goals as goal

pub starts_of-requires-clause-total : goal.starts_of-requires-clause-total
starts_of-requires-clause-total g c = omega (arith, c.in-Some.ensures.ok.less, pow_mono c.requires.1)

-- the sums of the weights but the last are those of all the weights
all_sums : {W : Type 0} (number : W → ℕ) (ws : List W) (sums : List ℕ) (n total limit : ℕ) → IsLastSymbol number ws n total limit → Sums number (take (n - 1) ws) sums (length (take (n - 1) ws) + 1) → Sums number ws sums n
all_sums number ws sums n total limit l s =
    let len : length (take (n - 1) ws) ≡ n - 1 = length-take-le (n - 1) ws (omega (arith, l.within)) in
    record {
      len = omega (arith, s.len, l.some);
      each = λ k h. s.each k (omega (arith, l.some)) ∙ ap (sum_by number) (take-take k (n - 1) ws (omega arith));
    }

pub invariant_of-result-clause-has_symbols : goal.invariant_of-result-clause-has_symbols
invariant_of-result-clause-has_symbols g c = omega (arith, c.in_ok-starts.ensures.len, length-map c.in_ok-starts.starts.items g.Probability.Natural.number)

-- the same of the weights as numbers
number_sums : {W : Type 0} (number : W → ℕ) (ws : List W) (sums : List ℕ) (n total limit : ℕ) → IsLastSymbol number ws n total limit → Sums number (take (n - 1) ws) sums (length (take (n - 1) ws) + 1) → Sums (λ (y : ℕ). y) (map number ws) sums n
number_sums number ws sums n total limit l s = sums_of_numbers number ws sums n (all_sums number ws sums n total limit l s)

pub invariant_of-result-clause-rising : goal.invariant_of-result-clause-rising
invariant_of-result-clause-rising g c =
    let number = g.Probability.Natural.number in
    let l = c.in-Some.ensures.ok in
    sums_rise _ _ _ _ _ (number_sums number _ _ _ _ _ l c.in_ok-starts.ensures) (last_of_numbers number _ _ _ _ l)

pub invariant_of-result-clause-last : goal.invariant_of-result-clause-last
invariant_of-result-clause-last g c =
    let number = g.Probability.Natural.number in
    let l = c.in-Some.ensures.ok in
    let sums = all_sums number _ _ _ _ _ l c.in_ok-starts.ensures in
    let place : length c.in_ok-starts.starts.items - 1 ≡ c.in-Some.known - 1 = omega (arith, sums.len, length-map c.in_ok-starts.starts.items number) in
    rw place (omega (arith, sums.each (c.in-Some.known - 1) (omega (arith, l.some)), l.last))

pub returns-clause-ok : goal.returns-clause-ok
returns-clause-ok g c =
    let number = g.Probability.Natural.number in
    let l = c.in-Some.ensures.ok in
    same_table _ _ _ _ _ (number_sums number _ _ _ _ _ l c.in_ok-starts.ensures) (last_of_numbers number _ _ _ _ l)

pub make_rows-requires-clause-rising : goal.make_rows-requires-clause-rising
make_rows-requires-clause-rising g c =
    let number = g.Probability.Natural.number in
    let l = c.in-Some.ensures.ok in
    rw c.deref.ensures.value (sums_rise _ _ _ _ _ (number_sums number _ _ _ _ _ l c.in_ok-starts.ensures) (last_of_numbers number _ _ _ _ l))

pub make_rows-requires-clause-last : goal.make_rows-requires-clause-last
make_rows-requires-clause-last g c =
    let number = g.Probability.Natural.number in
    let l = c.in-Some.ensures.ok in
    let sums = all_sums number _ _ _ _ _ l c.in_ok-starts.ensures in
    let place : length c.in_ok-starts.starts.items - 1 ≡ c.in-Some.known - 1 = omega (arith, sums.len, length-map c.in_ok-starts.starts.items number) in
    rw (c.deref.ensures.value, place) (omega (arith, sums.each (c.in-Some.known - 1) (omega (arith, l.some)), l.last))

pub invariant_of-result-clause-hinted : goal.invariant_of-result-clause-hinted
invariant_of-result-clause-hinted g c = rw c.deref.ensures.value at c.in_ok-rows.ensures.hints

pub invariant_of-result-clause-listed : goal.invariant_of-result-clause-listed
invariant_of-result-clause-listed g c = rw c.deref.ensures.value at c.in_ok-rows.ensures.rows

-- ---- refusals, and sizes

pub returns-then-is_empty-clause-ok : goal.returns-then-is_empty-clause-ok
returns-then-is_empty-clause-ok g c = tt

pub returns-then-is_empty-clause-total : goal.returns-then-is_empty-clause-total
returns-then-is_empty-clause-total g c = tt

pub known_symbols-requires : goal.known_symbols-requires
known_symbols-requires g c = c.requires

pub returns-in_default-clause-ok : goal.returns-in_default-clause-ok
returns-in_default-clause-ok g c = tt

pub returns-in_default-clause-total : goal.returns-in_default-clause-total
returns-in_default-clause-total g c = tt

pub slice_bounds-starts_of-count : goal.slice_bounds-starts_of-count
slice_bounds-starts_of-count g c = omega (arith, c.in-Some.ensures.ok.some)

pub returns-in_err-starts-clause-ok : goal.returns-in_err-starts-clause-ok
returns-in_err-starts-clause-ok g c = none_made _ _ c.from_residual.ensures.0

pub returns-in_err-starts-clause-total : goal.returns-in_err-starts-clause-total
returns-in_err-starts-clause-total g c = either_way _ c.in-Some.ensures.ok.total_of

pub returns-in_err-starts-clause-memory : goal.returns-in_err-starts-clause-memory
returns-in_err-starts-clause-memory g c = λ _. c.in-Some.ensures.ok.total_of

pub shift_for-shift-requires-clause-some : goal.shift_for-shift-requires-clause-some
shift_for-shift-requires-clause-some g c = c.in-Some.ensures.ok.some

pub shift_for-shift-requires-clause-within : goal.shift_for-shift-requires-clause-within
shift_for-shift-requires-clause-within g c = (c.requires.0, omega (arith, c.requires.1, g.met.Probability.Natural.bits_law.1))

pub make_rows-requires-clause-sized : goal.make_rows-requires-clause-sized
make_rows-requires-clause-sized g c = c.requires

pub make_rows-requires-clause-few : goal.make_rows-requires-clause-few
make_rows-requires-clause-few g c =
    let number = g.Probability.Natural.number in
    let sums = all_sums number _ _ _ _ _ c.in-Some.ensures.ok c.in_ok-starts.ensures in
    rw c.deref.ensures.value (omega (arith, sums.len, length-map c.in_ok-starts.starts.items number, c.if-known-gt4294967296.false))

pub make_rows-requires-clause-within : goal.make_rows-requires-clause-within
make_rows-requires-clause-within g c = (c.shift_for-shift.ensures.within, c.shift_for-shift.ensures.fits)

pub returns-in_err-rows-clause-ok : goal.returns-in_err-rows-clause-ok
returns-in_err-rows-clause-ok g c = none_made _ _ c.from_residual-in_err-rows.ensures.0

pub returns-in_err-rows-clause-total : goal.returns-in_err-rows-clause-total
returns-in_err-rows-clause-total g c = either_way _ c.in-Some.ensures.ok.total_of

pub returns-in_err-rows-clause-memory : goal.returns-in_err-rows-clause-memory
returns-in_err-rows-clause-memory g c = λ _. c.in-Some.ensures.ok.total_of

pub invariant_of-result-clause-positive : goal.invariant_of-result-clause-positive
invariant_of-result-clause-positive g c = c.requires.0

pub invariant_of-result-clause-fits : goal.invariant_of-result-clause-fits
invariant_of-result-clause-fits g c = c.requires.1

pub invariant_of-result-clause-cut : goal.invariant_of-result-clause-cut
invariant_of-result-clause-cut g c = (c.shift_for-shift.ensures.within, c.shift_for-shift.ensures.fits)

pub returns-clause-total : goal.returns-clause-total
returns-clause-total g c = c.in-Some.ensures.ok.total_of

pub returns-clause-memory : goal.returns-clause-memory
returns-clause-memory g c = λ _. c.in-Some.ensures.ok.total_of
