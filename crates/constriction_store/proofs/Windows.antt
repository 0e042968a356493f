-- Reading takes no other words than those from a run on, as many as a state has.
use Rattle.std.proofs.Common.{◌≡◌, ◌∙◌, ℕ, zero, suc, ◌+◌, ◌-◌, ◌*◌, ◌/◌, ◌%◌, ◌^◌, ◌<◌, ◌≤◌, List, [], ◌∷◌, drop, get_or, refl, sym, ap, ap₂, subst, arith, pow_pos, get_or-drop}
use Rattle.constriction_base.specs.Models.{Model, items_of}
use Rattle.constriction_base.specs.Steps.{Step, IsSizes, AreWords}
use Rattle.constriction_queue.specs.Range.{Run, QuantileInInterval, number_of_first, number_read, offset}
use Rattle.constriction_queue.proofs.Pointing.{mod_sum}
use Rattle.constriction_queue.proofs.Sought.{sought_is_at}
use Rattle.constriction_queue.specs.Symbols.{FindsAll}
use Rattle.constriction_store.proofs.Symbols.{narrow_keeps}

-- the lists agree from a place up to another
abbrev Agree : List ℕ → List ℕ → ℕ → ℕ → Type 0
Agree words others from upto = (i : ℕ) → from ≤ i → i < upto → get_or others i 0 ≡ get_or words i 0

first_alike : (b k n : ℕ) (words others : List ℕ) → Agree words others n (n + k) → number_of_first b k (drop n others) ≡ number_of_first b k (drop n words)
first_alike b zero n words others agree = refl
first_alike b (suc k) n words others agree =
    let before : number_of_first b k (drop n others) ≡ number_of_first b k (drop n words) = first_alike b k n words others (λ i from below. agree i from (omega (arith, below))) in
    let word : get_or (drop n others) k 0 ≡ get_or (drop n words) k 0 = get_or-drop n others k 0 ∙ agree (n + k) (omega arith) (omega arith) ∙ sym (get_or-drop n words k 0) in
    ap₂ (λ (m x : ℕ). m * b + x) before word

-- what is read behind n words, as a state
read_there : (w s n : ℕ) (ws : List ℕ) → IsSizes w s → AreWords w ws → number_read w s ws n % 2 ^ s ≡ number_of_first (2 ^ w) (s / w) (drop n ws)
read_there w s n ws z fit =
    let there : Run = record { low = 0; range = 0; moves = n } in
    sym (sought_is_at w s ws there n (0 % 2 ^ s) 0 (number_of_first (2 ^ w) (s / w) (drop n ws)) (drop (s / w) (drop n ws)) z fit (record { place_is = refl; lower_is = refl; range_is = refl }) refl refl).point_is

module _ (w s : ℕ) (words others : List ℕ) (z : IsSizes w s) (fit : AreWords w words) (fit' : AreWords w others) where
  offset_alike : (r : Run) → Agree words others r.moves (r.moves + s / w) → offset w s others r ≡ offset w s words r
  offset_alike r agree =
      let m : ℕ = 2 ^ s in
      let above : ℕ = m - r.low % m in
      let same : number_read w s others r.moves % m ≡ number_read w s words r.moves % m =
      read_there w s r.moves others z fit' ∙ first_alike (2 ^ w) (s / w) r.moves words others agree ∙ sym (read_there w s r.moves words z fit) in
      sym (mod_sum (number_read w s others r.moves) above m (pow_pos s)) ∙ ap (λ (n : ℕ). (n + above) % m) same ∙ mod_sum (number_read w s words r.moves) above m (pow_pos s)

  taken_alike : (e : Step) (r : Run) → Agree words others r.moves (r.moves + s / w) → QuantileInInterval w s words e r → QuantileInInterval w s others e r
  taken_alike e r agree t =
      let same = offset_alike r agree in
      record { from = rw same t.from; below = rw same t.below }

  found_moves : (model : Model ℕ) (symbols : List ℕ) (old last : Run) → FindsAll w s words (items_of model symbols) old last → old.moves ≤ last.moves
  found_moves model [] old last all = let same : last.moves ≡ old.moves = ap (λ (r : Run). r.moves) all in omega (arith, same)
  found_moves model (x ∷ xs) old last all =
      let e : Step = record { precision = model.precision; left = all.1.0; p = all.1.1 } in
      let first : old.moves ≤ all.0.moves = subst (λ (r : Run). old.moves ≤ r.moves) (sym all.1.3.1) (narrow_keeps w s e old) in
      omega (arith, first, found_moves model xs all.0 last all.2)

  pub found_in_others : (model : Model ℕ) (symbols : List ℕ) (old last : Run) → FindsAll w s words (items_of model symbols) old last
      → Agree words others old.moves (last.moves + s / w) → FindsAll w s others (items_of model symbols) old last
  found_in_others model [] old last all agree = all
  found_in_others model (x ∷ xs) old last all agree =
      let e : Step = record { precision = model.precision; left = all.1.0; p = all.1.1 } in
      let first : old.moves ≤ all.0.moves = subst (λ (r : Run). old.moves ≤ r.moves) (sym all.1.3.1) (narrow_keeps w s e old) in
      let later : all.0.moves ≤ last.moves = found_moves model xs all.0 last all.2 in
      let taken = taken_alike e old (λ i from below. agree i from (omega (arith, below, first, later))) all.1.3.0 in
      (all.0, (all.1.0, all.1.1, all.1.2, (taken, all.1.3.1)), found_in_others model xs all.0 last all.2 (λ i from below. agree i (omega (arith, from, first)) below))
