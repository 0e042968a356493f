-- Each step of a run keeps it valid and inside.
use Rattle.std.proofs.Common.{◌≡◌, ℕ, suc, ◌+◌, ◌-◌, ◌*◌, ◌^◌, ◌<◌, ◌≤◌, List, [], ◌∷◌, refl, sym, subst, inl, inr, arith, pow_mono, pow_pos, lt-ltb, le-ltb, mul-lt-mul_of_pos_right, mul-le-mul_right, mul-le-mul, le-div_iff_mul-le, mul-le-mul_left}
use native.Mathlib.Nat.{pow-suc, pow-zero}
use Rattle.std.proofs.lemmas.Bool.{cases_lt}
use Rattle.constriction_base.specs.Steps.{Step, IsStep, AreSteps, IsSizes}
use Rattle.constriction_queue.specs.Range.{Run, initial, scale, cut, grown, narrowed_by, run, IsInterval}
use Rattle.constriction_base.proofs.Sizes.{Facts, facts, table_divides}
use Rattle.constriction_queue.proofs.Runs.{part_inside}

abbrev pub moved : ℕ → Run → Run
moved w r = record { low = r.low * 2 ^ w; range = r.range * 2 ^ w; moves = suc r.moves }

pub grown_small : (w s : ℕ) (r : Run) → r.range < 2 ^ (s - w) → grown w s r ≡ moved w r
grown_small w s r h = rw (lt-ltb r.range (2 ^ (s - w)) h) refl

pub grown_large : (w s : ℕ) (r : Run) → 2 ^ (s - w) ≤ r.range → grown w s r ≡ r
grown_large w s r h = rw (le-ltb r.range (2 ^ (s - w)) h) refl

-- one of the two
pub by_growth : (w s : ℕ) (r : Run) (P : Run → Type 0) → (r.range < 2 ^ (s - w) → P (moved w r)) → (2 ^ (s - w) ≤ r.range → P r) → P (grown w s r)
by_growth w s r P small large =
    elim (cases_lt r.range (2 ^ (s - w))) [
      | inl h ↦ subst P (sym (grown_small w s r h)) (small h)
      | inr h ↦ subst P (sym (grown_large w s r h)) (large h)
    ]

pub scale_least : (w s : ℕ) (e : Step) (r : Run) → IsSizes w s → IsStep w e → 2 ^ (s - w) ≤ r.range → 2 ^ (s - w - e.precision) ≤ scale e r
scale_least w s e r z h least =
    let d : 2 ^ (s - w - e.precision) * 2 ^ e.precision ≤ r.range = omega (arith, least, table_divides w s e z h) in
    (le-div_iff_mul-le (pow_pos e.precision)).1 d

pub cut_least : (w s : ℕ) (e : Step) (r : Run) → IsSizes w s → IsStep w e → 2 ^ (s - w) ≤ r.range → 2 ^ (s - w) ≤ (cut e r).range * 2 ^ w
cut_least w s e r z h least =
    let K : ℕ = 2 ^ (s - w - e.precision) in
    let wide : 2 ^ e.precision ≤ 2 ^ w = pow_mono h.within_word in
    let one : K * 1 ≤ scale e r * e.p = mul-le-mul (scale_least w s e r z h least) h.not_empty in
    let all : K * 1 * 2 ^ e.precision ≤ scale e r * e.p * 2 ^ w = mul-le-mul one wide in
    omega (arith, all, table_divides w s e z h)

pub valid_cut : (w s : ℕ) (e : Step) (r : Run) → IsSizes w s → IsStep w e → IsInterval w s r → IsInterval w s (narrowed_by w s e r)
valid_cut w s e r z h v =
    let f : Facts w s = facts w s z in
    let part : scale e r * e.left + scale e r * e.p ≤ r.range = part_inside r.range (2 ^ e.precision) e.left e.p h.inside in
    let least = cut_least w s e r z h v.least in
    by_growth w s (cut e r) (λ c. IsInterval w s c)
    (λ small. record {
      least = least;
      fits =
          let m : scale e r * e.p * 2 ^ w < 2 ^ (s - w) * 2 ^ w = mul-lt-mul_of_pos_right small (pow_pos w) in
          omega (arith, m, f.whole);
      inside =
          let m : (r.low + r.range) * 2 ^ w < 2 ^ s * (2 ^ w) ^ r.moves * 2 ^ w = mul-lt-mul_of_pos_right v.inside (pow_pos w) in
          let n : (scale e r * e.left + scale e r * e.p) * 2 ^ w ≤ r.range * 2 ^ w = mul-le-mul_right (2 ^ w) part in
          rw (pow-suc (2 ^ w) r.moves) (omega (arith, m, n));
    })
    (λ large. record { least = large; fits = omega (arith, part, v.fits); inside = omega (arith, part, v.inside) })

pub valid_run : (w s : ℕ) (es : List Step) (r : Run) → IsSizes w s → AreSteps w es → IsInterval w s r → IsInterval w s (run w s es r)
valid_run w s [] r z hs v = v
valid_run w s (e ∷ es) r z hs v = valid_run w s es (narrowed_by w s e r) z hs.1 (valid_cut w s e r z hs.0 v)

pub valid_start : (w s : ℕ) → IsSizes w s → IsInterval w s (initial s)
valid_start w s z =
    let f : Facts w s = facts w s z in
    let twice : 2 ^ (s - w) * 2 ≤ 2 ^ (s - w) * 2 ^ w = mul-le-mul_left (2 ^ (s - w)) f.base in
    record {
      least = omega (arith, f.whole, twice, pow_pos (s - w));
      fits = omega (arith, pow_pos s);
      inside = rw (pow-zero (2 ^ w)) (omega (arith, pow_pos s));
    }
