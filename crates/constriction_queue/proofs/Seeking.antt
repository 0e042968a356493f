-- A decoder that went to a recorded position.
use Rattle.std.proofs.Common.{◌≡◌, ℕ, zero, suc, ◌-◌, ◌/◌, ◌^◌, ◌≤◌, List, [], ◌∷◌, drop, length, map, refl, ap, ◌∙◌, arith, inl, inr, lt-ltb, le-ltb}
use Rattle.std.proofs.lemmas.Bool.{cases_lt}
use Rattle.constriction_base.specs.Steps.{Step, IsSizes, AreWords}
use Rattle.constriction_base.specs.Models.{Item}
use Rattle.constriction_queue.specs.Decoder.{Decoder, StandsAt}
use Rattle.constriction_queue.specs.Range.{Run, cut, grown, narrowed_by, number_of_first, sealed}
use Rattle.constriction_queue.specs.States.{IsPosition}
use Rattle.constriction_queue.proofs.Sought.{sought_is_at}
use Rattle.constriction_queue.specs.Symbols.{NarrowsAll}
use Rattle.constriction_queue.proofs.Sealing.{sealed_long}
use Rattle.constriction_base.proofs.Guards.{map-drop}

-- over a buffer of the words it stands at that moment of reading them
pub sought_there : {W B : Type 0} (number : W → ℕ) (w s : ℕ) (items part : List W) (words : List ℕ) (there : Run) (place lower range : ℕ) (d : Decoder B)
    → IsSizes w s → AreWords w words → map number items ≡ words → IsPosition s there place lower range → part ≡ drop place items
    → d.lower ≡ lower → d.range ≡ range → d.point ≡ number_of_first (2 ^ w) (s / w) (map number part) → d.words ≡ drop (s / w) (map number part)
    → StandsAt w s words there d
sought_there number w s items part words there place lower range d z are is position part_is lower_is range_is point_is rest_is =
    let cut : map number part ≡ drop place words = ap (λ xs. map number xs) part_is ∙ map-drop number place items ∙ ap (λ ws. drop place ws) is in
    rw (lower_is, range_is) (sought_is_at w s words there place lower range d.point d.words z are position
    (point_is ∙ ap (λ ws. number_of_first (2 ^ w) (s / w) ws) cut)
    (rest_is ∙ ap (λ ws. drop (s / w) ws) cut))

-- ---- a position lies in the words that were exported later
grown_on : (w s : ℕ) (r : Run) → r.moves ≤ (grown w s r).moves
grown_on w s r = elim (cases_lt r.range (2 ^ (s - w))) [
  | inl short ↦ rw (lt-ltb r.range (2 ^ (s - w)) short) (omega arith)
  | inr long ↦ rw (le-ltb r.range (2 ^ (s - w)) long) (omega arith)
]

moves_on : {S : Type 0} (w s : ℕ) (items : List (Item S)) (old new : Run) → NarrowsAll w s items old new → old.moves ≤ new.moves
moves_on w s [] old new all = omega (arith, ap (λ (r : Run). r.moves) all)
moves_on w s (item ∷ items) old new all =
    let e : Step = record { precision = item.model.precision; left = all.1.0; p = all.1.1 } in
    let first : old.moves ≤ (narrowed_by w s e old).moves = grown_on w s (cut e old) in
    omega (arith, first, ap (λ (r : Run). r.moves) all.1.3, moves_on w s items all.0 new all.2)

pub place_within : {S : Type 0} (w s : ℕ) (items : List (Item S)) (middle last : Run) → NarrowsAll w s items middle last → middle.moves ≤ length (sealed w s last)
place_within w s items middle last all = omega (arith, moves_on w s items middle last all, sealed_long w s last)
