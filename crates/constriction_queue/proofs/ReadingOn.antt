-- Symbols that words are read as: which symbol a decode takes, and that none is refused.
use Rattle.std.proofs.Common.{◌≡◌, ℕ, ◌+◌, ◌-◌, ◌*◌, ◌/◌, ◌<◌, ◌≤◌, ◌^◌, ◌⊎◌, ◌↔◌, ◌==◌, Bool, true, false, IsTrue, eq-eqb, List, [], ◌∷◌, ◌++◌, Ok, Err, inl, inr, length, drop, refl, sym, ap, ◌∙◌, subst, arith, pow_pos, mod-eq_of_lt, zero-add}
use Rattle.std.specs.Int.{from_bool}
use Rattle.std.proofs.lemmas.Bool.{cases_lt, eqb-true, false≢true}
use Rattle.std.proofs.lemmas.List.{drop_all, length-drop}
use Rattle.constriction_base.specs.declared.backends.reading.Holds as holding
use Rattle.constriction_base.specs.declared.backends.reading.ReadWords as reading
use Rattle.constriction_base.specs.declared.errors.CoderError.{CoderError}
use Rattle.constriction_base.specs.Steps.{IsSizes, AreWords, Step}
use Rattle.constriction_base.specs.Tables.{AtEntry}
use Rattle.constriction_base.specs.Models.{Model, Item, IsModel, item_of}
use Rattle.constriction_base.proofs.Trace.{Trace-more}
use Rattle.constriction_stream.specs.Symbols.{ByBackend}
use Rattle.constriction_queue.specs.Range.{Run, IsAt, cut, narrowed_by, number_of_first, initial}
use Rattle.constriction_queue.specs.Decoder.{Decoder, distance, quantile_read, StandsAt}
use Rattle.constriction_queue.specs.States.{IsPosition}
use Rattle.constriction_queue.specs.Calls as calls
use Rattle.constriction_queue.proofs.Narrowing.{by_growth}
use Rattle.constriction_queue.proofs.Sought.{sought_is_at}
use Rattle.constriction_queue.proofs.WordsRead.{first_point}
use Rattle.constriction_queue.specs.Symbols.{Finds, FindsAll, MayEnd}
use Rattle.constriction_queue.proofs.ComingBack.{one_decode}
use Rattle.constriction_queue.proofs.StepCalls.{found_quantile}
use Rattle.constriction_queue.proofs.StepCalls.{decode_of, ended_of, nears_of}

-- ---- where a cursor stands
-- so many words are left that those before them are these
pub rest_of : {A : Type 0} (k : ℕ) (xs : List A) → drop (length xs - length (drop k xs)) xs ≡ drop k xs
rest_of k xs = elim (cases_lt (length xs) k) [
  | inl past ↦ drop_all (length xs - length (drop k xs)) xs (omega (arith, length-drop k xs)) ∙ sym (drop_all k xs (omega arith))
  | inr within ↦ (let same : length xs - length (drop k xs) ≡ k = omega (arith, length-drop k xs) in rw same refl)
]

-- a decoder reads on and never back
pub moves_on : {S : Type 0} (w s : ℕ) (words : List ℕ) (items : List (Item S)) (old last : Run) → FindsAll w s words items old last → old.moves ≤ last.moves
moves_on w s words [] old last all = omega (arith, ap (λ (r : Run). r.moves) all)
moves_on w s words (item ∷ items) old last (between, (left, p, has, (takes, is)), all) =
    let e : Step = record { precision = item.model.precision; left = left; p = p } in
    let more : old.moves ≤ (narrowed_by w s e old).moves = by_growth w s (cut e old) (λ (r : Run). old.moves ≤ r.moves) (λ small. omega arith) (λ large. omega arith) in
    let here : between.moves ≡ (narrowed_by w s e old).moves = ap (λ (r : Run). r.moves) is in
    let rest = moves_on w s words items between last all in
    omega (arith, more, here, rest)

-- a decoder that began at a position, and took its interval
pub sought_kept : (w s : ℕ) (words part rest : List ℕ) (there : Run) (place lower range first_lower first_range point : ℕ) → IsSizes w s → AreWords w words → AreWords w part
    → IsPosition s there place lower range → part ≡ drop place words → IsAt w s part (initial s) first_lower first_range point rest
    → IsAt w s words there lower range point rest
sought_kept w s words part rest there place lower range first_lower first_range point z are part_are position part_is at =
    let none : 0 + s / w ≡ s / w = zero-add (s / w) in
    let read : point ≡ number_of_first (2 ^ w) (s / w) part =
    at.point_is ∙ mod-eq_of_lt (first_point w s part z part_are) ∙ ap (λ n. number_of_first (2 ^ w) n part) none in
    sought_is_at w s words there place lower range point rest z are position
    (read ∙ ap (λ ws. number_of_first (2 ^ w) (s / w) ws) part_is)
    (at.rest_is ∙ ap (λ n. drop n part) none ∙ ap (λ ws. drop (s / w) ws) part_is)

-- ---- one symbol
module _ {W B E Q : Type 0} (F : Type 0) (number : W → ℕ) (holds : holding.Ghosts B W Q) (reads : reading.Ghosts B W Q E) (w s : ℕ) (words : List ℕ) (known : holds.is_list) (model : Model ℕ) where
  pub next_found : (y x : ℕ) (rest : List (Item ℕ)) (r last : Run) (d new : Decoder B) → IsModel w model → StandsAt w s words r d → FindsAll w s words (item_of model y ∷ rest) r last
      → AtEntry model.precision model.table x (λ step. ByBackend {F = F} (calls.DecodeCall number holds reads w s) d step (Ok tt) new)
      → (mid : Run) × StandsAt w s words mid new × FindsAll w s words rest mid last
  next_found y x rest r last d new m at all given =
      let got = decode_of F number holds reads w s words known model x r d new at given in
      let same = one_decode w s words model x y r got.0 all.0 m got.1 all.1 in
      (all.0, subst (λ (t : Run). StandsAt w s words t new) same.1 got.2, all.2)

  pub never_refused : (y : ℕ) (rest : List (Item ℕ)) (r last : Run) (d new : Decoder B) (e : CoderError F E) (halted : Type 0) → (E → ⊥) → IsModel w model → StandsAt w s words r d
      → FindsAll w s words (item_of model y ∷ rest) r last → (halted → 2 ^ model.precision ≤ quantile_read s model.precision d)
      → halted ⊎ ((x : ℕ) × AtEntry model.precision model.table x (λ step. ByBackend {F = F} (calls.DecodeCall number holds reads w s) d step (Err e) new)) → ⊥
  never_refused y rest r last d new e halted never m at all high (inl h) = omega (arith, high h, found_quantile w s words model y r all.0 d m (pow_pos s) at all.1)
  never_refused y rest r last d new e halted never m at all high (inr (x, (left, p, has, (Ok u, call, is)))) = absurd cc
  never_refused y rest r last d new e halted never m at all high (inr (x, (left, p, has, (Err b, call, is)))) = never b

  -- one symbol more, behind those taken
  pub one_more : (items : List (Item ℕ)) (x : ℕ) (old mid : Run) (d new : Decoder B) → FindsAll w s words items old mid → StandsAt w s words mid d
      → AtEntry model.precision model.table x (λ step. ByBackend {F = F} (calls.DecodeCall number holds reads w s) d step (Ok tt) new)
      → (last : Run) × FindsAll w s words (items ++ item_of model x ∷ []) old last × StandsAt w s words last new
  one_more items x old mid d new all at given =
      let got = decode_of F number holds reads w s words known model x mid d new at given in
      (got.0, Trace-more (λ item. Finds w s words item.model item.symbol) items (item_of model x) old mid got.0 all got.1, got.2)

-- ---- where words may have ended
-- as a number
pub as_number : (maybe : Bool) (n : ℕ) → n ≡ from_bool maybe → ((n ≡ 1) ↔ IsTrue maybe) × (n ≤ 1)
as_number true n is = ((λ one. refl, λ yes. is), omega (arith, is))
as_number false n is = ((λ one. absurd (omega (arith, is, one)), λ yes. absurd (false≢true yes)), omega (arith, is))

pub may_end : {B : Type 0} (w s : ℕ) (buffer words : List ℕ) (there : Run) (d : Decoder B) (place count : ℕ) (maybe : Bool) → 0 < 2 ^ s → StandsAt w s words there d
    → d.words ≡ drop place buffer → place ≤ length buffer → count ≡ length buffer
    → (IsTrue maybe ↔ (IsTrue (place == count) × ((d.range + 1 ≡ 2 ^ s) ⊎ (distance s d + 1 < 2 * 2 ^ (s - w)))))
    → IsTrue maybe ↔ MayEnd w s words there
may_end {B} w s buffer words there d place count maybe some at left within all value = (
  λ is. (let both = value.0 is in (sym at.rest_is ∙ left ∙ drop_all place buffer (omega (arith, eqb-true place count both.0, all)), nears_of w s words there d some at both.1)),
  λ may. (
      let ended = ended_of w s words there d some at may in
      let none : length (drop place buffer) ≡ 0 = ap length (sym left ∙ ended.0) in
      value.1 (eq-eqb place count (omega (arith, none, length-drop place buffer, within, all)), ended.1)
      ),
)

pub finds_same : {S : Type 0} (w s : ℕ) (words : List ℕ) (items others : List (Item S)) (old new : Run) → items ≡ others → FindsAll w s words items old new → FindsAll w s words others old new
finds_same {S} w s words items others old new same all = subst (λ (is : List (Item S)). FindsAll w s words is old new) same all
