-- A list of steps is read exactly if the number lies in the run's last interval.
use Rattle.std.proofs.Common.{◌≡◌, ℕ, ◌+◌, ◌-◌, ◌*◌, ◌/◌, ◌^◌, ◌<◌, ◌≤◌, List, [], ◌∷◌, get_or, ◌↔◌, arith, pow_pos}
use Rattle.constriction_base.specs.Steps.{Step, IsStep, AreSteps, IsSizes, AreWords}
use Rattle.constriction_queue.specs.Range.{Run, initial, scale, cut, grown, narrowed_by, run, IsInterval, number_read, offset, QuantileInInterval, ReadAs, Within}
use Rattle.constriction_base.proofs.Sizes.{table_fits}
use Rattle.constriction_queue.proofs.Cuts.{offset_is, from_quantile, to_quantile, from_quantile_below, to_quantile_below, more_from, less_from, more_below, less_below, scale_pos}
use Rattle.constriction_queue.proofs.WordsRead.{point_more, first_point}
use Rattle.constriction_queue.proofs.Narrowing.{by_growth, valid_cut, valid_start}
use Rattle.constriction_base.proofs.WordLists.{word_below}
use Rattle.constriction_queue.proofs.Runs.{part_inside}

-- the distance that a state holds is the true one
pub record Near (w s : ℕ) (ws : List ℕ) (r : Run) : Type 0 where
  pub from : r.low ≤ number_read w s ws r.moves
  pub below : number_read w s ws r.moves < r.low + 2 ^ s

near : (w s : ℕ) (ws : List ℕ) (r : Run) → IsInterval w s r → Within w s ws r → Near w s ws r
near w s ws r v i = record { from = i.from; below = omega (arith, i.below, v.fits) }

near_start : (w s : ℕ) (ws : List ℕ) → IsSizes w s → AreWords w ws → Near w s ws (initial s)
near_start w s ws z h = record { from = omega arith; below = omega (arith, first_point w s ws z h) }

-- a word more leaves the number in the interval, and comes from a number there
grown_within : (w s : ℕ) (ws : List ℕ) (r : Run) → AreWords w ws → Within w s ws r → Within w s ws (grown w s r)
grown_within w s ws r h i =
    by_growth w s r (λ c. Within w s ws c)
    (λ small. record {
      from = rw (point_more w s ws r.moves) (more_from r.low (number_read w s ws r.moves) (2 ^ w) (get_or ws (r.moves + s / w) 0) i.from);
      below = rw (point_more w s ws r.moves) (let m = more_below (r.low + r.range) (number_read w s ws r.moves) (2 ^ w) (get_or ws (r.moves + s / w) 0) (word_below w ws (r.moves + s / w) h) i.below in omega (arith, m));
    })
    (λ large. i)

within_grown : (w s : ℕ) (ws : List ℕ) (r : Run) → AreWords w ws → Within w s ws (grown w s r) → Within w s ws r
within_grown w s ws r h =
    by_growth w s r (λ c. Within w s ws c → Within w s ws r)
    (λ small i.
    let from : r.low * 2 ^ w ≤ number_read w s ws r.moves * 2 ^ w + get_or ws (r.moves + s / w) 0 = rw (point_more w s ws r.moves) at i.from in
    let below : number_read w s ws r.moves * 2 ^ w + get_or ws (r.moves + s / w) 0 < r.low * 2 ^ w + r.range * 2 ^ w = rw (point_more w s ws r.moves) at i.below in
    record {
      from = less_from r.low (number_read w s ws r.moves) (2 ^ w) (get_or ws (r.moves + s / w) 0) (word_below w ws (r.moves + s / w) h) from;
      below = less_below (r.low + r.range) (number_read w s ws r.moves) (2 ^ w) (get_or ws (r.moves + s / w) 0) (omega (arith, below));
    })
    (λ large i. i)

module _ (w s : ℕ) (ws : List ℕ) (z : IsSizes w s) (words : AreWords w ws) where
  scale_above : (e : Step) (r : Run) → IsStep w e → IsInterval w s r → 0 < scale e r
  scale_above e r h v = scale_pos r.range (2 ^ e.precision) (2 ^ (s - w)) (pow_pos e.precision) (table_fits w s e z h) v.least

  -- what is read as a step lies in the step's part
  within_cut : (e : Step) (r : Run) → IsStep w e → IsInterval w s r → Near w s ws r → QuantileInInterval w s ws e r → Within w s ws (cut e r)
  within_cut e r h v near t =
      let hz = scale_above e r h v in
      let d : offset w s ws r ≡ number_read w s ws r.moves - r.low = offset_is r.low (number_read w s ws r.moves) (2 ^ s) (pow_pos s) near.from near.below in
      record {
        from = from_quantile r.low (scale e r) e.left (number_read w s ws r.moves) hz near.from (rw d at t.from);
        below = from_quantile_below r.low (scale e r) e.left e.p (number_read w s ws r.moves) hz near.from (rw d at t.below);
      }

  takes_cut : (e : Step) (r : Run) → IsStep w e → IsInterval w s r → Within w s ws (cut e r) → QuantileInInterval w s ws e r × Within w s ws r
  takes_cut e r h v i =
      let hz = scale_above e r h v in
      let part : scale e r * e.left + scale e r * e.p ≤ r.range = part_inside r.range (2 ^ e.precision) e.left e.p h.inside in
      let from : r.low ≤ number_read w s ws r.moves = omega (arith, i.from) in
      let below : number_read w s ws r.moves < r.low + r.range = omega (arith, i.below, part) in
      let d : offset w s ws r ≡ number_read w s ws r.moves - r.low = offset_is r.low (number_read w s ws r.moves) (2 ^ s) (pow_pos s) from (omega (arith, below, v.fits)) in (
        record {
          from = rw d (to_quantile r.low (scale e r) e.left (number_read w s ws r.moves) hz i.from);
          below = rw d (to_quantile_below r.low (scale e r) e.left e.p (number_read w s ws r.moves) hz from i.below);
        },
        record { from = from; below = below },
      )

  within_narrow : (e : Step) (r : Run) → IsStep w e → IsInterval w s r → Near w s ws r → QuantileInInterval w s ws e r → Within w s ws (narrowed_by w s e r)
  within_narrow e r h v near t = grown_within w s ws (cut e r) words (within_cut e r h v near t)

  pub takes_narrow : (e : Step) (r : Run) → IsStep w e → IsInterval w s r → Within w s ws (narrowed_by w s e r) → QuantileInInterval w s ws e r × Within w s ws r
  takes_narrow e r h v i = takes_cut e r h v (within_grown w s ws (cut e r) words i)

  pub within_run : (es : List Step) (r : Run) → AreSteps w es → IsInterval w s r → Within w s ws r → ReadAs w s ws es r → Within w s ws (run w s es r)
  within_run [] r hs v i t = i
  within_run (e ∷ es) r hs v i t =
      within_run es (narrowed_by w s e r) hs.1 (valid_cut w s e r z hs.0 v) (within_narrow e r hs.0 v (near w s ws r v i) t.0) t.1

  pub reads_run : (es : List Step) (r : Run) → AreSteps w es → IsInterval w s r → Within w s ws (run w s es r) → ReadAs w s ws es r × Within w s ws r
  reads_run [] r hs v i = (tt, i)
  reads_run (e ∷ es) r hs v i =
      let rest = reads_run es (narrowed_by w s e r) hs.1 (valid_cut w s e r z hs.0 v) i in
      let point = takes_narrow e r hs.0 v rest.1 in
      ((point.0, rest.0), point.1)

  pub law_reads : (e : Step) (es : List Step) → AreSteps w (e ∷ es) → ReadAs w s ws (e ∷ es) (initial s) ↔ Within w s ws (run w s (e ∷ es) (initial s))
  law_reads e es hs =
      let v = valid_start w s z in (
        λ t. within_run es (narrowed_by w s e (initial s)) hs.1 (valid_cut w s e (initial s) z hs.0 v) (within_narrow e (initial s) hs.0 v (near_start w s ws z words) t.0) t.1,
        λ i. (reads_run (e ∷ es) (initial s) hs v i).0,
      )
