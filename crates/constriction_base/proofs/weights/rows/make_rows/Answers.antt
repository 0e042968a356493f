use Rattle.std.proofs.Common.{◌≡◌, ℕ, ◌∷◌, [], ◌+◌, ◌-◌, ◌*◌, ◌%◌, ◌^◌, ◌<◌, ◌≤◌, ◌∙◌, ap, arith, pow_pos, pow-add, map, length, get_or, length-append}
use Rattle.std.proofs.Math.Nat.{mod-eq_of_lt, mul-le-mul_right}
use Rattle.std.proofs.Math.Pow.{pow_mono}
use Rattle.std.proofs.lemmas.List.{length-map}
use Rattle.constriction_base.specs.laws.Weights.{ends_at}
use Rattle.constriction_base.specs.Hints.{IsHint}
use Rattle.constriction_base.proofs.HintLemmas.{hint_of, no_hints, symbols_of, rows_hint, rows_none_above, rows_push}
use Rattle.constriction_base.proofs.Results.{none_made}
use Rattle.std.proofs.Common.{sym}
use Rattle.constriction_base.proofs.Heads.{pow-split}
use Rattle.constriction_base.proofs.weights.rows.make_rows.Goals as goal

-- one, moved up to a place within the bits
one_below : (one shift bits : ℕ) → one ≡ 1 → shift + 1 ≤ bits → one * 2 ^ shift < 2 ^ bits
one_below one shift bits is within =
    let all : 2 ^ (shift + 1) ≡ 2 ^ shift * 2 ^ 1 = pow-add 2 shift 1 in
    let power : one * 2 ^ shift ≡ 2 ^ shift = rw is (omega arith) in
    omega (arith, all, power, pow_pos shift, pow_mono within)

pub shift_left-width-requires-clause-fits : goal.shift_left-width-requires-clause-fits
shift_left-width-requires-clause-fits g c = one_below _ _ _ c.unit.ensures (omega (arith, c.requires.sized.1, c.requires.within.0))

-- a bucket begins below the end of all
bucket_below : (bucket count width all : ℕ) → bucket < count → 0 < width → count * width ≡ all → bucket * width < all
bucket_below bucket count width all below some is =
    let more : (bucket + 1) * width ≤ count * width = mul-le-mul_right width (omega (arith, below)) in
    omega (arith, more, is, some)

-- where the bits hold it, the place of a bucket is the number counted
at_place : (first place precision bits : ℕ) → place < 2 ^ precision → precision ≤ bits → first ≡ place % 2 ^ bits → first ≡ place
at_place first place precision bits below within is = is ∙ mod-eq_of_lt (omega (arith, below, pow_mono within))

-- the next place, counted with the bits of the type
next_place : (first width one shift bucket modulus next : ℕ) → first ≡ bucket * 2 ^ shift → one ≡ 1 → width ≡ one * 2 ^ shift → next ≡ (first + width) % modulus → next ≡ (bucket + 1) * 2 ^ shift % modulus
next_place first width one shift bucket modulus next is one_is width_is next_is =
    let step : width ≡ 1 * 2 ^ shift = rw one_is at width_is in
    let sum : first + width ≡ (bucket + 1) * 2 ^ shift = omega (arith, is, step) in
    next_is ∙ ap (λ n. n % modulus) sum

pub symbol_from-symbol-requires-clause-above : goal.symbol_from-symbol-requires-clause-above
symbol_from-symbol-requires-clause-above g c =
    let i = c.loop-bucket.invariant in
    let place = bucket_below c.loop-bucket.bucket (2 ^ (g.row.PRECISION - c.args.shift)) (2 ^ c.args.shift) (2 ^ g.row.PRECISION) (omega (arith, c.loop-bucket-test.true)) (pow_pos c.args.shift) (pow-split g.row.PRECISION c.args.shift (omega (arith, c.requires.within.0))) in
    omega (arith, i.from, at_place _ _ g.row.PRECISION _ place c.requires.sized.1 i.first)

pub loop-bucket-preserved : goal.loop-bucket-preserved
loop-bucket-preserved g c =
    let number = g.Probability.Natural.number in
    let starts = map number c.args.starts.now in
    let len = length-map c.args.starts.now number in
    let i = c.loop-bucket.invariant in
    let s = c.symbol_from-symbol.ensures in
    let rows = c.loop-bucket.rows.items in
    let symbol = c.symbol_from-symbol.result in
    let row = c.make_row.result in
    let told = c.make_row.ensures.symbol in
    let place = bucket_below c.loop-bucket.bucket (2 ^ (g.row.PRECISION - c.args.shift)) (2 ^ c.args.shift) (2 ^ g.row.PRECISION) (omega (arith, c.loop-bucket-test.true)) (pow_pos c.args.shift) (pow-split g.row.PRECISION c.args.shift (omega (arith, c.requires.within.0))) in
    let first = at_place _ _ g.row.PRECISION _ place c.requires.sized.1 i.first in
    let lower : (k : ℕ) → k < length (symbols_of rows) → get_or (symbols_of rows) k 0 ≤ row.symbol = λ k h. omega (arith, i.lower k h, s.order, told) in
    let hint : IsHint starts (2 ^ g.row.PRECISION) (c.loop-bucket.bucket * 2 ^ c.args.shift) symbol =
    hint_of starts (2 ^ g.row.PRECISION) (c.loop-bucket.bucket * 2 ^ c.args.shift) symbol (omega (arith, s.within, len)) (omega (arith, s.above, first)) (omega (arith, place)) (λ more. omega (arith, first, s.below (omega (arith, more, len)))) in
    record {
      first = next_place (number c.loop-bucket.first) (number c.shift_left-width.result) (number c.unit.result) c.args.shift c.loop-bucket.bucket (2 ^ g.Probability.Natural.BITS) _ first c.unit.ensures c.shift_left-width.ensures c.wrapping_plus-first.ensures;
      known = omega (arith, s.within, len);
      from = omega (arith, s.above, first);
      len = rw c.push_reserved.ensures.items (omega (arith, i.len, length-append rows (row ∷ [])));
      counted = omega (arith, c.push_reserved.ensures.len, i.counted);
      capacity = omega (arith, c.push_reserved.ensures.capacity, i.capacity);
      hinted = rw c.push_reserved.ensures.items (rows_hint starts (2 ^ g.row.PRECISION) (2 ^ c.args.shift) rows row i.hinted lower (rw (i.len, told) hint));
      lower = rw (c.push_reserved.ensures.items, sym told) (rows_none_above rows row lower);
      listed = rw c.push_reserved.ensures.items (rows_push number starts (2 ^ g.row.PRECISION) rows row i.listed c.make_row.ensures.row);
    }

pub returns-clause-hints : goal.returns-clause-hints
returns-clause-hints g c =
    let number = g.Probability.Natural.number in
    let starts = map number c.args.starts.now in
    let high = 2 ^ g.row.PRECISION in
    let len = length-map c.args.starts.now number in
    let i = c.loop-bucket.invariant in
    let rows = c.loop-bucket.rows.items in
    let row = c.make_row-2.result in
    let told = c.make_row-2.ensures.symbol in
    let last = length c.args.starts.now - 1 in
    let end : c.loop-bucket.bucket ≡ 2 ^ (g.row.PRECISION - c.args.shift) = omega (arith, c.loop-bucket-test.false, c.loop-bucket.auto.bucket-end, pow_mono c.requires.within.1) in
    let place : length rows * 2 ^ c.args.shift ≡ high = rw (i.len, end) (pow-split g.row.PRECISION c.args.shift (omega (arith, c.requires.within.0))) in
    let inside : last < length starts = omega (arith, len, c.requires.some) in
    let hint : IsHint starts high high last = record {
      known = inside;
      from = omega (arith, c.requires.rising.below last inside);
      to = omega (arith, ends_at starts high last (omega (arith, len)));
    } in
    rw c.push_reserved-2.ensures.items (rows_hint starts high (2 ^ c.args.shift) rows row i.hinted (λ k h. omega (arith, i.lower k h, i.known, len, told)) (rw (place, told) hint))

pub returns-clause-rows : goal.returns-clause-rows
returns-clause-rows g c =
    let number = g.Probability.Natural.number in
    rw c.push_reserved-2.ensures.items (rows_push number (map number c.args.starts.now) (2 ^ g.row.PRECISION) c.loop-bucket.rows.items c.make_row-2.result c.loop-bucket.invariant.listed c.make_row-2.ensures.row)

-- ---- sizes

pub overflow_cast-count : goal.overflow_cast-count
overflow_cast-count g c = omega (arith, c.requires.sized.1, g.met.Probability.Natural.bits_law.1)

pub overflow_sub-count : goal.overflow_sub-count
overflow_sub-count g c = omega (arith, c.requires.within.0)

pub overflow_cast-count-2 : goal.overflow_cast-count-2
overflow_cast-count-2 g c = omega (arith, c.requires.within.1)

pub overflow_shl-count : goal.overflow_shl-count
overflow_shl-count g c = omega (arith, c.requires.within.1)

pub shift_left-width-requires-clause-within : goal.shift_left-width-requires-clause-within
shift_left-width-requires-clause-within g c = omega (arith, c.requires.within.0, c.requires.sized.1)

pub overflow_add-count : goal.overflow_add-count
overflow_add-count g c = omega (arith, pow_mono c.requires.within.1)

pub returns-in_err-rows-clause-count : goal.returns-in_err-rows-clause-count
returns-in_err-rows-clause-count g c = none_made _ _ c.from_residual.ensures.0

pub returns-in_err-rows-clause-hints : goal.returns-in_err-rows-clause-hints
returns-in_err-rows-clause-hints g c = none_made _ _ c.from_residual.ensures.0

pub returns-in_err-rows-clause-rows : goal.returns-in_err-rows-clause-rows
returns-in_err-rows-clause-rows g c = none_made _ _ c.from_residual.ensures.0

pub symbol_from-symbol-requires-clause-within : goal.symbol_from-symbol-requires-clause-within
symbol_from-symbol-requires-clause-within g c = omega (arith, c.loop-bucket.invariant.known, length-map c.args.starts.now g.Probability.Natural.number)

pub push_reserved-requires : goal.push_reserved-requires
push_reserved-requires g c = omega (arith, c.loop-bucket.invariant.counted, c.loop-bucket.invariant.capacity, c.loop-bucket-test.true)

pub overflow_sub-starts : goal.overflow_sub-starts
overflow_sub-starts g c = omega (arith, c.requires.some)

pub push_reserved-requires-2 : goal.push_reserved-requires-2
push_reserved-requires-2 g c = omega (arith, c.loop-bucket.invariant.counted, c.loop-bucket.invariant.capacity, c.loop-bucket.auto.bucket-end)

pub returns-clause-count : goal.returns-clause-count
returns-clause-count g c =
    rw c.push_reserved-2.ensures.items (omega (arith, c.loop-bucket.invariant.len, length-append c.loop-bucket.rows.items (c.make_row-2.result ∷ []), c.loop-bucket-test.false, c.loop-bucket.auto.bucket-end, pow_mono c.requires.within.1))

zero_place : (width all : ℕ) → 0 < all → 0 * width % all ≡ 0
zero_place width all some =
    let none : 0 * width ≡ 0 = omega arith in
    ap (λ n. n % all) none ∙ mod-eq_of_lt some

pub loop-bucket-init : goal.loop-bucket-init
loop-bucket-init g c =
    let number = g.Probability.Natural.number in
    let items = c.in_ok-rows.ensures.items in
    record {
      first = c.nothing-first.ensures ∙ sym (zero_place (2 ^ c.args.shift) (2 ^ g.Probability.Natural.BITS) (pow_pos g.Probability.Natural.BITS));
      known = omega (arith, length-map c.args.starts.now number, c.requires.some);
      from = omega (arith, c.requires.rising.first);
      len = ap length items;
      counted = c.in_ok-rows.ensures.len;
      capacity = c.in_ok-rows.ensures.exact;
      listed = λ k other h. absurd (omega (arith, h, ap length items));
      hinted = rw items (no_hints (map number c.args.starts.now) (2 ^ g.row.PRECISION) (2 ^ c.args.shift));
      lower = λ k h. absurd (omega (arith, h, ap (λ rows. length (symbols_of rows)) items));
    }
