-- What calls of the stack coder say of words that were put behind a caller's, or had no room there.
use Rattle.std.proofs.Common.{◌≡◌, ◌≤◌, take, ◌⊎◌, ◌+◌, ◌<◌, ◌∙◌, ℕ, List, [], ◌++◌, Ok, Err, Result, length, map, reverse, refl, ap, inr, append-nil, arith, subst, sym}
use Rattle.std.specs.Prelude.{IfErr, OnErr, OnOk}
use Rattle.std.proofs.lemmas.List.{length-append, length-take, take-take}
use Rattle.constriction_base.specs.Models.{AreKnown, AreModels, IsModel, Item}
use Rattle.constriction_base.specs.Steps.{IsSizes}
use Rattle.constriction_base.proofs.Turns.{all-reverse}
use Rattle.constriction_stack.specs.Ans.{AnsState, IsPush, IsNormalized}
use Rattle.constriction_stack.specs.Symbols.{EncodesAll}
use Rattle.constriction_calls.specs.AnsCalls.{AnsExports, AnsBuffers, AnsEncodesList, AreBinary, TooShortForExport, HasBinary, TooShortForItems, ans_state_of}
use Rattle.constriction_inputs.specs.Buffers.{Appended, stack_in}
use Rattle.constriction_inputs.specs.Coded.{AreFit, Coded, items}
use Rattle.constriction_inputs.specs.declared.refusal.Refusal.{Refusal}
use Rattle.constriction_inputs.specs.declared.refusal.Refusal.TheVariants.{NoMemory, NoSpace}
use Rattle.constriction_inputs.proofs.Asking.{fit_then, room_of}
use Rattle.constriction_stack.proofs.Over.{encodes_over}
use Rattle.constriction_inputs.proofs.KnownItems.{known_turned}
use Rattle.constriction_inputs.proofs.Stacked.{counted, stacked}

-- the state of a coder that reads the first words of a buffer
pub lent_state : {W : Type 0} (number : W → ℕ) (head pos left len : ℕ) (lent words : List W) → lent ≡ take len words → pos ≤ length lent → left ≡ pos
    → ◌≡◌ {A = AnsState} (record { head = head; words = map number (reverse (take pos lent)) }) (record { head = head; words = stack_in number words left })
lent_state number head pos left len lent words is within same = rw (is, same, take-take pos len words (omega (arith, length-take len words, ap length is))) refl

-- a coder whose three numbers are as before
same_buffers : {Word State : Type 0} (old : AnsBuffers Word State) (head : State) (words : List Word) (len : ℕ) → head ≡ old.head → words ≡ old.words → len ≡ old.len
    → ◌≡◌ {A = AnsBuffers Word State} (record { head = head; words = words; len = len }) old
same_buffers {Word} {State} old head words len one two three =
    let with : State → List Word → ℕ → AnsBuffers Word State = λ h ws n. record { head = h; words = ws; len = n } in
    ap (λ (h : State). with h words len) one ∙ (ap (λ (ws : List Word). with old.head ws len) two ∙ ap (λ (n : ℕ). with old.head old.words n) three)

-- what a coder without words wrote, put behind a caller's words
module _ {Word State : Type 0} (number : Word → ℕ) (state : State → ℕ) (w s precision : ℕ) (coded : Coded) (old : AnsBuffers Word State) (within : old.len ≤ length old.words) (fit : AreFit precision coded)
    (z : IsSizes w s) (xs : List (Item ℕ)) (is : items precision coded ≡ xs) (models : AreModels w xs) (added : List Word) (top : State)
    (all : EncodesAll w s (reverse xs) (record { head = state old.head; words = [] }) (record { head = state top; words = map number (reverse added) })) where
  -- the state of what it wrote, and that over the caller's words
  abbrev alone : AnsState
  alone = record { head = state top; words = map number (reverse added) }

  abbrev behind : AnsState
  behind = record { head = state top; words = map number (reverse added) ++ stack_in number old.words old.len }

  given : AreModels w (items precision coded) × EncodesAll w s (reverse (items precision coded)) (record { head = state old.head; words = [] }) alone
  given = subst (λ (its : List (Item ℕ)). AreModels w its × EncodesAll w s (reverse its) (record { head = state old.head; words = [] }) alone) (sym is) (models, all)

  items_known : AreKnown (items precision coded)
  items_known = known_turned (IsPush w s) (items precision coded) _ _ given.1

  whole : IsNormalized w s (ans_state_of number state old) → EncodesAll w s (reverse (items precision coded)) (ans_state_of number state old) behind
  whole v =
      encodes_over w s (stack_in number old.words old.len) (reverse (items precision coded)) (record { head = state old.head; words = [] }) alone z
      (all-reverse (λ item. IsModel w item.model) (items precision coded) given.0) v given.1

  pub puts_ended : (B : Type 0) (answer : Result (Unit {0}) Refusal) (new_head : State) (new_words : List Word) (new_len : ℕ)
      → OnOk answer ((new_head ≡ top) × Appended old.words old.len added new_words new_len)
      → IfErr answer (λ e. (e ≡ NoSpace (old.len + length added)) ⊎ ((e ≡ NoMemory) × B)) → OnErr answer (length old.words < old.len + length added)
      → OnErr answer ((new_head ≡ old.head) × (new_words ≡ old.words) × (new_len ≡ old.len))
      → AnsEncodesList number state w s precision coded old (record { head = new_head; words = new_words; len = new_len }) answer
  puts_ended B (Ok u) new_head new_words new_len ended why short same = record {
    put = λ v.
        let at : (h : State) (ws : List ℕ) → Type 0 = λ h ws. EncodesAll w s (reverse (items precision coded)) (ans_state_of number state old) (record { head = state h; words = ws }) in
        subst (at new_head) (sym (stacked number old.words old.len added new_words new_len ended.1))
        (subst (λ (h : State). at h (map number (reverse added) ++ stack_in number old.words old.len)) (sym ended.0) (whole v));
    behind = (
      added,
      ended.1,
      subst (λ (h : State). EncodesAll w s (reverse (items precision coded)) (record { head = state old.head; words = [] }) (record { head = state h; words = map number (reverse added) }))
          (sym ended.0) given.1,
    );
    asked = inr (within, fit_then precision coded fit (inr (items_known, tt)));
    kept = tt;
  }
  puts_ended B (Err e) new_head new_words new_len ended why short same =
      let many = counted number old.words old.len added within in
      let lacks : TooShortForItems w s (reverse (items precision coded)) (length old.words) (ans_state_of number state old) (old.len + length added) = record {
        short = short;
        encoded = λ v. (behind, whole v, many);
        alone = (alone, given.1, omega (arith, many, length-append (map number (reverse added)) (stack_in number old.words old.len)));
      } in
      record {
        put = tt;
        behind = tt;
        asked = inr (within, fit_then precision coded fit (inr (items_known, room_of _ e (old.len + length added) why lacks)));
        kept = same_buffers old new_head new_words new_len same.0 same.1 same.2;
      }

-- the words of a head below its leading 1 put behind a caller's words
module _ {Word State : Type 0} (number : Word → ℕ) (state : State → ℕ) (w : ℕ) (old : AnsBuffers Word State) (within : old.len ≤ length old.words) (added : List Word)
    (are : AreBinary w (record { head = state old.head; words = [] }) (map number (reverse added))) where
  abbrev binary : HasBinary w (ans_state_of number state old)
  binary = (are.0, record { from = are.1.from; below = are.1.below })

  whole_binary : AreBinary w (ans_state_of number state old) (map number (reverse added) ++ stack_in number old.words old.len)
  whole_binary = (binary.0, binary.1, ap (λ (ds : List ℕ). ds ++ stack_in number old.words old.len) (are.2 ∙ append-nil _))

  pub binary_exported : (B : Type 0) (new_words : List Word) (new_len : ℕ) (r : Result (Unit {0}) Refusal) → OnOk r (Appended old.words old.len added new_words new_len)
      → IfErr r (λ e. (e ≡ NoSpace (old.len + length added)) ⊎ ((e ≡ NoMemory) × B)) → OnErr r (length old.words < old.len + length added) → OnErr r ((new_words ≡ old.words) × (new_len ≡ old.len))
      → AnsExports number state (AreBinary w) (HasBinary w) old (record { head = old.head; words = new_words; len = new_len }) r
  binary_exported B new_words new_len (Ok u) a why short same = record {
    all = subst (AreBinary w (ans_state_of number state old)) (sym (stacked number old.words old.len added new_words new_len a)) whole_binary;
    behind = (added, a);
    asked = inr (within, inr (binary, tt));
    kept = tt;
  }
  binary_exported B new_words new_len (Err e) a why short same =
      let lacks : TooShortForExport (AreBinary w) (length old.words) (ans_state_of number state old) (old.len + length added) = record {
        short = short;
        all = map number (reverse added) ++ stack_in number old.words old.len;
        is_all = whole_binary;
        count = counted number old.words old.len added within;
      } in
      record {
        all = tt;
        behind = tt;
        asked = inr (within, inr (binary, room_of _ e (old.len + length added) why lacks));
        kept = same_buffers old old.head new_words new_len refl same.0 same.1;
      }
