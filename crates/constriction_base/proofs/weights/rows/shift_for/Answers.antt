use Rattle.std.proofs.Common.{◌≡◌, ℕ, ◌+◌, ◌-◌, ◌*◌, ◌^◌, ◌<◌, ◌≤◌, ◌⊎◌, inl, inr, min, max, arith, pow_pos, pow-add, pow_mono}
use Rattle.std.proofs.Math.Nat.{mul-le-mul_left, mul-lt-mul_of_pos_left}
use Rattle.std.proofs.lemmas.Bool.{cases_lt}
use Rattle.constriction_base.proofs.weights.rows.shift_for.Goals as goal

-- three bits more are eight times as many
eight_times : (log : ℕ) → 2 ^ (log + 3) ≡ 8 * 2 ^ log
eight_times log = let split : 2 ^ (log + 3) ≡ 2 ^ log * 2 ^ 3 = pow-add 2 log 3 in omega (arith, split)

few : (symbols log precision buckets bits : ℕ) → 2 ^ log ≤ symbols → buckets ≤ 3 → bits ≡ min (min precision (max (log + buckets) 1)) 63
    → 2 ^ (precision - (precision - bits)) ≤ 8 * symbols
few symbols log precision buckets bits least most is =
    let within : precision - (precision - bits) ≤ log + 3 = omega (arith, is, most) in
    omega (arith, least, eight_times log, pow_mono within)

-- no more buckets than the symbols' shares
shared : (symbols log precision buckets bits : ℕ) → 2 ^ log ≤ symbols → 1 ≤ precision → bits ≡ min (min precision (max (log + buckets) 1)) 63
    → (2 ^ (precision - (precision - bits)) ≤ 2 ^ buckets * symbols) ⊎ (precision - (precision - bits) ≡ 1)
shared symbols log precision buckets bits least some is = elim (cases_lt 0 (log + buckets)) [
  | inl more ↦
      let within : precision - (precision - bits) ≤ buckets + log = omega (arith, is, more) in
      let split : 2 ^ (buckets + log) ≡ 2 ^ buckets * 2 ^ log = pow-add 2 buckets log in
      inl (omega (arith, split, pow_mono within, mul-le-mul_left (2 ^ buckets) least))
  | inr none ↦ inr (omega (arith, is, none, some))
]

enough : (symbols log precision buckets bits : ℕ) → symbols < 2 * 2 ^ log → bits ≡ min (min precision (max (log + buckets) 1)) 63
    → (2 ^ buckets * symbols < 2 * 2 ^ (precision - (precision - bits))) ⊎ (precision - bits ≡ 0) ⊎ (precision - (precision - bits) ≡ 63)
enough symbols log precision buckets bits most is = elim (cases_lt bits precision) [
  | inr all ↦ inr (inl (omega (arith, all)))
  | inl less ↦ elim (cases_lt bits 63) [
    | inr top ↦ inr (inr (omega (arith, is, less, top)))
    | inl below ↦ (
        let more : buckets + log ≤ precision - (precision - bits) = omega (arith, is, less, below) in
        let split : 2 ^ (buckets + log) ≡ 2 ^ buckets * 2 ^ log = pow-add 2 buckets log in
        let twice : 2 ^ buckets * (2 * 2 ^ log) ≡ 2 * (2 ^ buckets * 2 ^ log) = omega arith in
        inl (omega (arith, split, twice, pow_mono more, mul-lt-mul_of_pos_left {k = 2 ^ buckets} most (pow_pos buckets))))
  ]
]

pub returns-clause-most : goal.returns-clause-most
returns-clause-most c = few c.args.symbols c.ilog2.result c.args.precision c.args.buckets c.min-2.result c.ilog2.ensures.power_le c.requires.few (omega (arith, c.max-index_bits.ensures, c.min.ensures, c.min-2.ensures))

pub returns-clause-few : goal.returns-clause-few
returns-clause-few c = shared c.args.symbols c.ilog2.result c.args.precision c.args.buckets c.min-2.result c.ilog2.ensures.power_le c.requires.within.0 (omega (arith, c.max-index_bits.ensures, c.min.ensures, c.min-2.ensures))

pub returns-clause-least : goal.returns-clause-least
returns-clause-least c = enough c.args.symbols c.ilog2.result c.args.precision c.args.buckets c.min-2.result c.ilog2.ensures.next_power_gt (omega (arith, c.max-index_bits.ensures, c.min.ensures, c.min-2.ensures))
