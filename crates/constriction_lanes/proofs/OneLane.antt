-- One coder of many: the words that encoding from its head alone writes, put behind its words in use, or without room
-- there.
use Rattle.std.proofs.Common.{◌≡◌, ◌∙◌, ◌+◌, ◌-◌, ◌<◌, ◌≤◌, ℕ, List, [], ◌++◌, Ok, length, map, reverse, inr, arith}
use Rattle.std.proofs.lemmas.List.{length-append, length-map, length-reverse}
use Rattle.constriction_base.specs.Models.{AreKnown, AreModels, IsModel, Item}
use Rattle.constriction_base.specs.Steps.{IsSizes}
use Rattle.constriction_base.proofs.Turns.{all-reverse}
use Rattle.constriction_stack.specs.Ans.{AnsState, IsNormalized, IsPush}
use Rattle.constriction_stack.specs.Symbols.{EncodesAll}
use Rattle.constriction_calls.specs.AnsCalls.{AnsBuffers, AnsEncodesList, TooShortForItems, ans_state_of}
use Rattle.constriction_inputs.specs.Buffers.{Appended, stack_in}
use Rattle.constriction_inputs.specs.Coded.{AreFit, Coded}
use Rattle.constriction_inputs.specs.Coded as coding
use Rattle.constriction_inputs.proofs.Asking.{fit_then}
use Rattle.constriction_inputs.proofs.KnownItems.{known_turned}
use Rattle.constriction_inputs.proofs.Stacked.{length_in, stacked}
use Rattle.constriction_stack.proofs.Over.{encodes_over}
use Rattle.constriction_lanes.specs.LaneCalls.{FitsRow}

-- what a coder without words wrote, put behind a coder's words
module _ {Word State : Type 0} (number : Word → ℕ) (state : State → ℕ) (w s : ℕ) (old : AnsBuffers Word State) (within : old.len ≤ length old.words) (z : IsSizes w s)
    (xs : List (Item ℕ)) (models : AreModels w xs) (added : List Word) (top : State)
    (all : EncodesAll w s (reverse xs) (record { head = state old.head; words = [] }) (record { head = state top; words = map number (reverse added) })) where
  abbrev alone : AnsState
  alone = record { head = state top; words = map number (reverse added) }

  abbrev behind : AnsState
  behind = record { head = state top; words = map number (reverse added) ++ stack_in number old.words old.len }

  pub xs_known : AreKnown xs
  xs_known = known_turned (IsPush w s) xs _ _ all

  whole : IsNormalized w s (ans_state_of number state old) → EncodesAll w s (reverse xs) (ans_state_of number state old) behind
  whole v =
      encodes_over w s (stack_in number old.words old.len) (reverse xs) (record { head = state old.head; words = [] }) alone z
      (all-reverse (λ item. IsModel w item.model) xs models) v all

  pub lane_done : (precision : ℕ) (coded : Coded) → AreFit precision coded → coding.items precision coded ≡ xs → (new_words : List Word) (new_len : ℕ) → Appended old.words old.len added new_words new_len
      → AnsEncodesList number state w s precision coded old (record { head = top; words = new_words; len = new_len }) (Ok tt)
  lane_done precision coded fit is new_words new_len a = record {
    put = λ v. rw (is, stacked number old.words old.len added new_words new_len a) (whole v);
    behind = (added, a, rw is all);
    asked = inr (within, fit_then precision coded fit (inr (rw is xs_known, tt)));
    kept = tt;
  }

  many : length behind.words ≡ old.len + length added
  many = omega (arith, length-append (map number (reverse added)) (stack_in number old.words old.len), length-map (reverse added) number, length-reverse added, length_in number old.words old.len within)

  pub lane_short : (room needed : ℕ) → room < needed → old.len + length added ≡ needed → TooShortForItems w s (reverse xs) room (ans_state_of number state old) needed
  lane_short room needed short is = record {
    short = short;
    encoded = λ v. (behind, whole v, many ∙ is);
    alone = (alone, all, omega (arith, is, length-map (reverse added) number, length-reverse added, length_in number old.words old.len within));
  }

  pub lane_fits : (needed : ℕ) → old.len + length added ≤ needed → FitsRow w s (reverse xs) (ans_state_of number state old) needed
  lane_fits needed fits = (alone, all, omega (arith, fits, length-map (reverse added) number, length-reverse added, length_in number old.words old.len within))
