-- Symbols with a flag among them, as items of the range coder.
use Rattle.std.specs.Prelude.{Ok, Err}
use Rattle.std.proofs.Common.{◌≡◌, ◌<◌, ◌==◌, ◌||◌, ℕ, Bool, true, false, List, [], ◌∷◌, ◌++◌, length, map, refl, sym, ap, ap₂, ◌∙◌, subst, inl, inr, arith}
use Rattle.constriction_base.specs.declared.backends.reading.Holds as holding
use Rattle.constriction_base.specs.declared.backends.reading.ReadWords as reading
use Rattle.constriction_base.specs.declared.errors.CoderError.{CoderError}
use Rattle.constriction_base.specs.declared.errors.CoderError.TheVariants.{Backend, Frontend}
use Rattle.constriction_base.specs.Models.{Model, Item, IsModel, AreModels, item_of, items_of}
use Rattle.constriction_base.specs.Steps.{Trace}
use Rattle.constriction_base.proofs.Trace.{Trace-more}
use Rattle.constriction_queue.specs.Decoder.{Decoder, StandsAt}
use Rattle.constriction_queue.specs.Flagged.{DecodesUnder, NoSymbolFrom, flagged, has_flag, next_model}
use Rattle.constriction_laws.specs.queue.Flagging.{flagged_behind}
use Rattle.constriction_queue.specs.declared.decoder.symbols.DecoderFrontendError.{DecoderFrontendError}
use Rattle.constriction_queue.specs.Range.{Run}
use Rattle.constriction_queue.proofs.FlaggedRuns.{behind, flag_more, flagged_more}
use Rattle.std.proofs.lemmas.List.{map-append}
use Rattle.constriction_stream.specs.Symbols.{never_frontend}
use Rattle.constriction_laws.specs.declared.errors.Stopped.TheVariants as stopped
use Rattle.constriction_laws.specs.queue.Outcomes.{InvalidWhere}
use Rattle.constriction_queue.specs.Symbols.{Finds, FindsAll}
use Rattle.constriction_queue.proofs.ComingBack.{one_decode, decodes_unique}
use Rattle.constriction_base.proofs.SameModel.{are_models, models-alike, symbols-items_of}

-- ---- their models
module _ (w flag : ℕ) (first second : Model ℕ) (m : IsModel w first) (n : IsModel w second) where
  are_behind : (b : Bool) (symbols : List ℕ) → AreModels w (flagged flag first second symbols) → AreModels w (behind flag first second b symbols)
  are_behind true symbols all = are_models w second symbols n
  are_behind false symbols all = all

  pub are_flagged : (symbols : List ℕ) → AreModels w (flagged flag first second symbols)
  are_flagged [] = tt
  are_flagged (x ∷ xs) = (m, are_behind (x == flag) xs (are_flagged xs))

  -- ---- one list
  pub one_flagged : (s : ℕ) (words xs ys : List ℕ) (old new last : Run) → length ys ≡ length xs
      → FindsAll w s words (flagged flag first second xs) old new → FindsAll w s words (flagged flag first second ys) old last → (ys ≡ xs) × (last ≡ new)
  one_flagged s words [] [] old new last same i j = (refl, j ∙ sym i)
  one_flagged s words [] (y ∷ ys) old new last same i j = absurd (omega arith)
  one_flagged s words (x ∷ xs) [] old new last same i j = absurd (omega arith)
  one_flagged s words (x ∷ xs) (y ∷ ys) old new last same i j =
      let here = one_decode w s words first y x old j.0 i.0 m j.1 i.1 in
      let others : FindsAll w s words (behind flag first second (x == flag) ys) i.0 last =
      subst (λ (r : Run). FindsAll w s words (behind flag first second (x == flag) ys) r last) here.1
      (subst (λ (z : ℕ). FindsAll w s words (behind flag first second (z == flag) ys) j.0 last) here.0 j.2) in
      let rest = rest_one i.0 (x == flag) (omega (arith, same)) i.2 others (one_flagged s words xs ys i.0 new last (omega (arith, same))) in
      (ap₂ (λ (z : ℕ) (zs : List ℕ). z ∷ zs) here.0 rest.0, rest.1)
    where
      rest_one : (mid : Run) (b : Bool) → length ys ≡ length xs → FindsAll w s words (behind flag first second b xs) mid new → FindsAll w s words (behind flag first second b ys) mid last
          → (FindsAll w s words (flagged flag first second xs) mid new → FindsAll w s words (flagged flag first second ys) mid last → (ys ≡ xs) × (last ≡ new)) → (ys ≡ xs) × (last ≡ new)
      rest_one mid false same i j law = law i j
      rest_one mid true same i j law =
          let back = decodes_unique w s words (items_of second xs) (items_of second ys) mid new last (are_models w second xs n) (models-alike second ys xs same) i j in
          (sym (symbols-items_of second ys) ∙ ap (λ (items : List (Item ℕ)). map (λ i. i.symbol) items) back.0 ∙ symbols-items_of second xs, back.1)

-- ---- one more
module _ (flag : ℕ) (first second : Model ℕ) where
  behind_more : (b : Bool) (xs : List ℕ) (x : ℕ)
      → flagged_behind b flag first second (xs ++ x ∷ []) ≡ flagged_behind b flag first second xs ++ item_of (next_model (b || has_flag flag xs) first second) x ∷ []
  behind_more true xs x = map-append (item_of second) xs (x ∷ [])
  behind_more false xs x = flagged_more flag first second xs x

pub finds_behind : (w s flag : ℕ) (first second : Model ℕ) (words : List ℕ) (b : Bool) (xs : List ℕ) (x : ℕ) (old mid new : Run) → FindsAll w s words (flagged_behind b flag first second xs) old mid
    → Finds w s words (next_model (b || has_flag flag xs) first second) x mid new → FindsAll w s words (flagged_behind b flag first second (xs ++ x ∷ [])) old new
finds_behind w s flag first second words b xs x old mid new all one =
    subst (λ (items : List (Item ℕ)). FindsAll w s words items old new) (sym (behind_more flag first second b xs x))
    (Trace-more (λ (item : Item ℕ). Finds w s words item.model item.symbol) (flagged_behind b flag first second xs) (item_of (next_model (b || has_flag flag xs) first second) x) old mid new all one)

-- so are decodes of a switch
pub decodes_behind : {W B E Q : Type 0} (number : W → ℕ) (holds : holding.Ghosts B W Q) (reads : reading.Ghosts B W Q E) (w s flag : ℕ) (first second : Model ℕ) (b : Bool) (xs : List ℕ) (x : ℕ) (old mid new : Decoder B)
    → Trace (λ (item : Item ℕ) (before after : Decoder B). DecodesUnder number holds reads w s item.model before (Ok item.symbol) after) (flagged_behind b flag first second xs) old mid
    → DecodesUnder number holds reads w s (next_model (b || has_flag flag xs) first second) mid (Ok x) new
    → Trace (λ (item : Item ℕ) (before after : Decoder B). DecodesUnder number holds reads w s item.model before (Ok item.symbol) after) (flagged_behind b flag first second (xs ++ x ∷ [])) old new
decodes_behind {B = B} number holds reads w s flag first second b xs x old mid new all one =
    let Gives : Item ℕ → Decoder B → Decoder B → Type 0 = λ item before after. DecodesUnder number holds reads w s item.model before (Ok item.symbol) after in
    subst (λ (items : List (Item ℕ)). Trace Gives items old new) (sym (behind_more flag first second b xs x))
    (Trace-more Gives (flagged_behind b flag first second xs) (item_of (next_model (b || has_flag flag xs) first second) x) old mid new all one)

-- a decode that is refused leaves a decoder where it stands
pub stands_still : {W B E Q : Type 0} (number : W → ℕ) (holds : holding.Ghosts B W Q) (reads : reading.Ghosts B W Q E) (w s : ℕ) (model : Model ℕ) (words : List ℕ) (r : Run) (old new : Decoder B) (e : CoderError DecoderFrontendError E)
    → holds.is_list → DecodesUnder number holds reads w s model old (Err e) new → StandsAt w s words r old → StandsAt w s words r new
stands_still {B = B} number holds reads w s model words r old new e known (inl halt) at = subst (λ (d : Decoder B). StandsAt w s words r d) (sym halt.2) at
stands_still number holds reads w s model words r old new e known (inr (symbol, (left, p, has, (Ok u, call, is)))) at = absurd cc
stands_still number holds reads w s model words r old new e known (inr (symbol, (left, p, has, (Err f, call, is)))) at =
    rw (call.lower, call.range, call.point, call.kept known) at

pub none_behind : (w s : ℕ) (words : List ℕ) (flag : ℕ) (first second : Model ℕ) (b : Bool) (old : Run) → FindsAll w s words (flagged_behind b flag first second []) old old
none_behind w s words flag first second true old = refl
none_behind w s words flag first second false old = refl

pub taken_none : {W B E Q : Type 0} (number : W → ℕ) (holds : holding.Ghosts B W Q) (reads : reading.Ghosts B W Q E) (w s flag : ℕ) (first second : Model ℕ) (b : Bool) (d : Decoder B)
    → Trace (λ (item : Item ℕ) (before after : Decoder B). DecodesUnder number holds reads w s item.model before (Ok item.symbol) after) (flagged_behind b flag first second []) d d
taken_none number holds reads w s flag first second true d = refl
taken_none number holds reads w s flag first second false d = refl

pub or_none : (b : Bool) → (b || false) ≡ b
or_none true = refl
or_none false = refl

pub switched_more : (b : Bool) (flag : ℕ) (xs : List ℕ) (x : ℕ) → ((b || has_flag flag xs) || x == flag) ≡ (b || has_flag flag (xs ++ x ∷ []))
switched_more true flag xs x = refl
switched_more false flag xs x = sym (flag_more flag xs x)

-- ---- decodes that were refused
-- where more symbols are found, the next one is
module _ (w s : ℕ) (words : List ℕ) where
  found_next : {S : Type 0} (model : Model S) → IsModel w model → (ys xs : List S) (old mid last : Run) → length ys < length xs
      → FindsAll w s words (items_of model ys) old mid → FindsAll w s words (items_of model xs) old last → (x : S) × (next : Run) × Finds w s words model x mid next
  found_next model m [] [] old mid last less i j = absurd (omega (arith, less))
  found_next model m [] (x ∷ xs) old mid last less i j = (x, j.0, subst (λ (r : Run). Finds w s words model x r j.0) (sym i) j.1)
  found_next model m (y ∷ ys) [] old mid last less i j = absurd (omega (arith, less))
  found_next model m (y ∷ ys) (x ∷ xs) old mid last less i j =
      let same = one_decode w s words model y x old i.0 j.0 m i.1 j.1 in
      found_next model m ys xs i.0 mid last (omega (arith, less)) i.2 (subst (λ (r : Run). FindsAll w s words (items_of model xs) r last) (sym same.1) j.2)

  module _ (flag : ℕ) (first second : Model ℕ) (m : IsModel w first) (n : IsModel w second) where
    flagged_next : (ys xs : List ℕ) (old mid last : Run) → length ys < length xs → FindsAll w s words (flagged flag first second ys) old mid
        → FindsAll w s words (flagged flag first second xs) old last → (x : ℕ) × (next : Run) × Finds w s words (next_model (has_flag flag ys) first second) x mid next
    flagged_next [] [] old mid last less i j = absurd (omega (arith, less))
    flagged_next [] (x ∷ xs) old mid last less i j = (x, j.0, subst (λ (r : Run). Finds w s words first x r j.0) (sym i) j.1)
    flagged_next (y ∷ ys) [] old mid last less i j = absurd (omega (arith, less))
    flagged_next (y ∷ ys) (x ∷ xs) old mid last less i j =
        let here = one_decode w s words first y x old i.0 j.0 m i.1 j.1 in
        let others : FindsAll w s words (behind flag first second (y == flag) xs) i.0 last =
        subst (λ (r : Run). FindsAll w s words (behind flag first second (y == flag) xs) r last) (sym here.1)
        (subst (λ (z : ℕ). FindsAll w s words (behind flag first second (z == flag) xs) j.0 last) (sym here.0) j.2) in
        rest_next i.0 (y == flag) (omega (arith, less)) i.2 others (flagged_next ys xs i.0 mid last (omega (arith, less)))
      where
        rest_next : (r : Run) (b : Bool) → length ys < length xs → FindsAll w s words (behind flag first second b ys) r mid → FindsAll w s words (behind flag first second b xs) r last
            → (FindsAll w s words (flagged flag first second ys) r mid → FindsAll w s words (flagged flag first second xs) r last
            → (x : ℕ) × (next : Run) × Finds w s words (next_model (has_flag flag ys) first second) x mid next)
            → (x : ℕ) × (next : Run) × Finds w s words (next_model (b || has_flag flag ys) first second) x mid next
        rest_next r false less i j law = law i j
        rest_next r true less i j law = found_next second n ys xs r mid last less i j

    pub behind_next : (b : Bool) (ys xs : List ℕ) (old mid last : Run) → length ys < length xs → FindsAll w s words (flagged_behind b flag first second ys) old mid
        → FindsAll w s words (flagged_behind b flag first second xs) old last → (x : ℕ) × (next : Run) × Finds w s words (next_model (b || has_flag flag ys) first second) x mid next
    behind_next true ys xs old mid last less i j = found_next second n ys xs old mid last less i j
    behind_next false ys xs old mid last less i j = flagged_next ys xs old mid last less i j

    pub next_lawful : (b : Bool) → IsModel w (next_model b first second)
    next_lawful true = n
    next_lawful false = m

-- a switch that refused a decode itself read no quantile of its model
pub only_invalid : {W B E Q : Type 0} (number : W → ℕ) (holds : holding.Ghosts B W Q) (reads : reading.Ghosts B W Q E) (w s : ℕ) (model : Model ℕ) (none : Type 0)
    (old new : Decoder B) (error : CoderError DecoderFrontendError E) → DecodesUnder number holds reads w s model old (Err error) new
    → (NoSymbolFrom s model.precision old → none) → InvalidWhere none (stopped.Refused error)
only_invalid number holds reads w s model none old new (Backend e) step law = tt
only_invalid number holds reads w s model none old new (Frontend f) (inl halt) law = law halt.1
only_invalid number holds reads w s model none old new (Frontend f) (inr (symbol, (left, p, has, (answer, call, is)))) law = absurd (never_frontend answer f is)
