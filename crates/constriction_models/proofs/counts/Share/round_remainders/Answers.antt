use Rattle.std.specs.Prelude.{◌≡◌, ℕ, ◌+◌, ◌-◌, ◌<◌, List, length, map, slice_index}
use Rattle.std.specs.List.{sum_by}
use Rattle.std.proofs.Common.{refl, ap, ◌∙◌, arith}
use Rattle.constriction_models.specs.Counts.{over, from, reaches, Divides, Separates}
use Rattle.constriction_models.proofs.Dividing.{overs_low, froms_reach, divides}
use Rattle.constriction_models.proofs.counts.Share.round_remainders.Goals as goal

-- what is over, where the overs are those of the counts
are_low : (counts overs : List ℕ) (limit mass rest : ℕ) → overs ≡ map (over limit mass rest) counts → 0 < rest → (k : ℕ) → k < length overs → slice_index overs k < rest
are_low counts overs limit mass rest is some = rw is (overs_low limit mass rest counts some)

reach_enough : (counts overs : List ℕ) (limit mass rest least some : ℕ) → overs ≡ map (over limit mass rest) counts → some ≡ sum_by (reaches least) overs → some ≡ sum_by (from limit mass rest least) counts
reach_enough counts overs limit mass rest least some is count = count ∙ (ap (sum_by (reaches least)) is ∙ froms_reach limit mass rest least counts)

divided : (counts overs : List ℕ) (limit mass rest left least : ℕ) → overs ≡ map (over limit mass rest) counts → Separates overs rest left least → Divides counts limit mass rest left least
divided counts overs limit mass rest left least is separate = divides counts limit mass rest left least (rw is at separate)

pub find_divider-requires-clause-below : goal.find_divider-requires-clause-below
find_divider-requires-clause-below c =
    let s = c.args.self.now in
    are_low c.args.counts.now _ s.limit s.mass s.rest (c.deref.ensures.value ∙ c.in_ok-parts.ensures.overs) s.some

pub find_divider-requires-clause-enough : goal.find_divider-requires-clause-enough
find_divider-requires-clause-enough c =
    let s = c.args.self.now in
    let reach = reach_enough c.args.counts.now c.deref.result.now s.limit s.mass s.rest 1 _ (c.deref.ensures.value ∙ c.in_ok-parts.ensures.overs) refl in
    omega (arith, c.requires.enough, c.in_ok-parts.ensures.total, reach)

pub weights-requires-clause-total : goal.weights-requires-clause-total
weights-requires-clause-total c =
    let s = c.args.self.now in
    let overs_are = c.deref.ensures.value ∙ c.in_ok-parts.ensures.overs in
    let reach = reach_enough c.args.counts.now c.deref.result.now s.limit s.mass s.rest (c.in_ok-divider.divider.least + 1) _ overs_are refl in
    omega (arith, c.requires.within, c.in_ok-parts.ensures.total, reach, c.in_ok-divider.ensures.tie)

pub weights-requires-clause-divides : goal.weights-requires-clause-divides
weights-requires-clause-divides c =
    let s = c.args.self.now in
    let overs_are = c.deref.ensures.value ∙ c.in_ok-parts.ensures.overs in
    let reach = reach_enough c.args.counts.now c.deref.result.now s.limit s.mass s.rest (c.in_ok-divider.divider.least + 1) _ overs_are refl in
    let d = divided c.args.counts.now c.deref.result.now s.limit s.mass s.rest (c.args.all - c.in_ok-parts.parts.total) c.in_ok-divider.divider.least overs_are c.in_ok-divider.ensures.divides in
    record {
      some = d.some;
      within = d.within;
      enough = omega (arith, reach, c.in_ok-divider.ensures.tie, d.enough);
      few = omega arith;
    }
