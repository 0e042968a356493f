-- Words that are written onto others and taken off again.
use Rattle.std.proofs.Common.{◌≡◌, ℕ, ◌^◌, ◌≤◌, List, map, drop, sym, ap, ◌∙◌}
use Rattle.std.specs.Int.Digits.{digits_of}
use Rattle.constriction_base.specs.Digits.{fixed_digits, count_of_words}
use Rattle.constriction_stack.specs.Ans.{AnsState}
use Rattle.constriction_stack.specs.Guards.{without}
use Rattle.constriction_base.proofs.Exporting.{base_two}
use Rattle.constriction_base.proofs.Guards.{all_digits, map-drop}

-- so many words were taken off
pub taken_off : {W : Type 0} (number : W → ℕ) (head count : ℕ) (old new : List W) → new ≡ drop count old
    → ◌≡◌ {A = AnsState} (record { head = head; words = map number new }) (without count (record { head = head; words = map number old }))
taken_off number head count old new is =
    let state : List ℕ → AnsState = λ ws. record { head = head; words = ws } in
    ap state (ap (map number) is ∙ map-drop number count old)

-- the words of a head, counted
pub counted_digits : (w count head : ℕ) → 1 ≤ w → count ≡ count_of_words w head → fixed_digits (2 ^ w) count head ≡ digits_of (2 ^ w) head
counted_digits w count head some is = all_digits (2 ^ w) count head (base_two w some) (sym is)
