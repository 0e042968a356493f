-- Symbols of a chunk, as the range coder takes and gives them.
use Rattle.std.proofs.Common.{◌≡◌, ◌∙◌, ℕ, ◌+◌, ◌/◌, ◌^◌, ◌<◌, ◌≤◌, List, [], ◌∷◌, ◌++◌, get_or, length, map, take, sym, ap, subst, arith, pow_pos}
use Rattle.std.proofs.lemmas.List.{take_more}
use Rattle.constriction_base.specs.Models.{Model, Item, IsModel, Knows, items_of}
use Rattle.constriction_base.specs.Steps.{Step, IsStep}
use Rattle.constriction_base.proofs.Trace.{Trace-symbol}
use Rattle.constriction_queue.specs.Range.{Run, offset, narrowed_by, cut}
use Rattle.constriction_queue.proofs.Narrowing.{by_growth}
use Rattle.constriction_queue.specs.Decoder.{Decoder, quantile_read, StandsAt}
use Rattle.constriction_queue.specs.Symbols.{Narrows, NarrowsAll, Finds, FindsAll}
use Rattle.constriction_queue.proofs.StepCalls.{distance_is}
use Rattle.constriction_queue.proofs.ComingBack.{one_decode, decodes_unique}
use Rattle.constriction_queue.proofs.Entries.{model_step}
use Rattle.constriction_base.proofs.SameModel.{are_models, models-alike, symbols-items_of}
use Rattle.constriction_store.specs.Chunks.{AllKnown}

-- one symbol more
pub narrowed_more : (w s : ℕ) (model : Model ℕ) (symbols : List ℕ) (k : ℕ) (old mid new : Run) → k < length symbols
    → NarrowsAll w s (items_of model (take k symbols)) old mid → Narrows w s model (get_or symbols k 0) mid new
    → NarrowsAll w s (items_of model (take (k + 1) symbols)) old new
narrowed_more w s model symbols k old mid new inside before one =
    subst (λ (xs : List ℕ). NarrowsAll w s (items_of model xs) old new) (sym (take_more symbols k 0 inside))
    (Trace-symbol (λ item. Narrows w s item.model item.symbol) model (take k symbols) (get_or symbols k 0) old mid new before one)

known_append : (model : Model ℕ) (xs : List ℕ) (y : ℕ) → AllKnown model xs → Knows model y → AllKnown model (xs ++ y ∷ [])
known_append model [] y all one = (one, tt)
known_append model (x ∷ xs) y all one = (all.0, known_append model xs y all.1 one)

pub known_more : (model : Model ℕ) (symbols : List ℕ) (k : ℕ) → k < length symbols → AllKnown model (take k symbols) → Knows model (get_or symbols k 0) → AllKnown model (take (k + 1) symbols)
known_more model symbols k inside all one = rw (take_more symbols k 0 inside) (known_append model (take k symbols) (get_or symbols k 0) all one)

pub narrows_known : (w s : ℕ) (model : Model ℕ) (symbols : List ℕ) (old new : Run) → NarrowsAll w s (items_of model symbols) old new → AllKnown model symbols
narrows_known w s model [] old new all = tt
narrows_known w s model (x ∷ xs) old new all = ((all.1.0, all.1.1, all.1.2), narrows_known w s model xs all.0 new all.2)

-- a symbol moves one word out at most
narrow_moves : (w s : ℕ) (e : Step) (r : Run) → (narrowed_by w s e r).moves ≤ r.moves + 1
narrow_moves w s e r = by_growth w s (cut e r) (λ c. c.moves ≤ r.moves + 1) (λ small. omega arith) (λ large. omega arith)

pub narrow_keeps : (w s : ℕ) (e : Step) (r : Run) → r.moves ≤ (narrowed_by w s e r).moves
narrow_keeps w s e r = by_growth w s (cut e r) (λ c. r.moves ≤ c.moves) (λ small. omega arith) (λ large. omega arith)

pub moves_least : (w s : ℕ) (model : Model ℕ) (symbols : List ℕ) (old new : Run) → NarrowsAll w s (items_of model symbols) old new → old.moves ≤ new.moves
moves_least w s model [] old new all = let same : new.moves ≡ old.moves = ap (λ (r : Run). r.moves) all in omega (arith, same)
moves_least w s model (x ∷ xs) old new all =
    let e : Step = record { precision = model.precision; left = all.1.0; p = all.1.1 } in
    let first : old.moves ≤ all.0.moves = subst (λ (r : Run). old.moves ≤ r.moves) (sym all.1.3) (narrow_keeps w s e old) in
    omega (arith, first, moves_least w s model xs all.0 new all.2)

pub moves_most : (w s : ℕ) (model : Model ℕ) (symbols : List ℕ) (old new : Run) → NarrowsAll w s (items_of model symbols) old new → new.moves ≤ old.moves + length symbols
moves_most w s model [] old new all = let same : new.moves ≡ old.moves = ap (λ (r : Run). r.moves) all in omega (arith, same)
moves_most w s model (x ∷ xs) old new all =
    let e : Step = record { precision = model.precision; left = all.1.0; p = all.1.1 } in
    let first : all.0.moves ≤ old.moves + 1 = subst (λ (r : Run). r.moves ≤ old.moves + 1) (sym all.1.3) (narrow_moves w s e old) in
    omega (arith, first, moves_most w s model xs all.0 new all.2)

-- ---- reading
pub found_more : (w s : ℕ) (words : List ℕ) (model : Model ℕ) (xs : List ℕ) (x : ℕ) (old mid new : Run) → FindsAll w s words (items_of model xs) old mid → Finds w s words model x mid new
    → FindsAll w s words (items_of model (xs ++ x ∷ [])) old new
found_more w s words model xs x old mid new all one = Trace-symbol (λ item. Finds w s words item.model item.symbol) model xs x old mid new all one

-- symbols that are read are no others
pub one_reading : (w s : ℕ) (words : List ℕ) (model : Model ℕ) (xs ys : List ℕ) (old new last : Run) → IsModel w model → length ys ≡ length xs
    → FindsAll w s words (items_of model xs) old new → FindsAll w s words (items_of model ys) old last → ys ≡ xs
one_reading w s words model xs ys old new last m same i j =
    let back = decodes_unique w s words (items_of model xs) (items_of model ys) old new last (are_models w model xs m) (models-alike model ys xs same) i j in
    sym (symbols-items_of model ys) ∙ ap (λ (items : List (Item ℕ)). map (λ i. i.symbol) items) back.0 ∙ symbols-items_of model xs

-- behind fewer symbols there is another, so that the quantile that is read is one of the precision
pub another_behind : (w s : ℕ) (words : List ℕ) (model : Model ℕ) (xs ys : List ℕ) (old run last : Run) → IsModel w model → length xs < length ys
    → FindsAll w s words (items_of model xs) old run → FindsAll w s words (items_of model ys) old last
    → 2 ^ model.precision ≤ offset w s words run / (run.range / 2 ^ model.precision) → ⊥
another_behind w s words model xs [] old run last m less i j none = absurd (omega arith)
another_behind w s words model [] (y ∷ ys) old run last m less i j none =
    let step : IsStep w (record { precision = model.precision; left = j.1.0; p = j.1.1 }) = model_step w model y j.1.0 j.1.1 m j.1.2 in
    let here : 2 ^ model.precision ≤ offset w s words old / (old.range / 2 ^ model.precision) =
    subst (λ (r : Run). 2 ^ model.precision ≤ offset w s words r / (r.range / 2 ^ model.precision)) i none in
    omega (arith, here, j.1.3.0.below, step.inside)
another_behind w s words model (x ∷ xs) (y ∷ ys) old run last m less i j none =
    let same = one_decode w s words model y x old j.0 i.0 m j.1 i.1 in
    another_behind w s words model xs ys i.0 run last m (omega arith) i.2 (subst (λ (r : Run). FindsAll w s words (items_of model ys) r last) same.1 j.2) none

-- a decoder reads the quantile of its run
pub quantile_is : {B : Type 0} (w s precision : ℕ) (words : List ℕ) (r : Run) (d : Decoder B) → StandsAt w s words r d → quantile_read s precision d ≡ offset w s words r / (r.range / 2 ^ precision)
quantile_is w s precision words r d at =
    ap (λ (n : ℕ). n / (d.range / 2 ^ precision)) (distance_is w s words r d (pow_pos s) at) ∙ ap (λ (n : ℕ). offset w s words r / (n / 2 ^ precision)) at.range_is
