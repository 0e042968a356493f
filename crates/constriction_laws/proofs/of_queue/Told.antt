-- Refused steps of a range coder: a decoder whose words hold more symbols refuses none, and an encoder knows all symbols
-- but those that the table has not.
use Rattle.std.specs.Iterator.{YieldsThen}
use Rattle.std.specs.Iterator.Adapters.{zip_steps}
use Rattle.std.specs.List.{zip}
use Rattle.std.specs.declared.iter.Zip.{Zip}
use Rattle.std.specs.Slice.Iter.{iter_steps}
use Rattle.std.proofs.Common.{◌≡◌, ◌∙◌, ℕ, ◌<◌, ◌≤◌, ◌^◌, Bor, Iter, Some, List, [], ◌∷◌, ◌++◌, Result, Ok, Err, inl, inr, map, length, drop, refl, sym, ap, subst, arith}
use Rattle.std.specs.Prelude.{IfErr, IsErrAnd}
use Rattle.std.proofs.lemmas.List.{map-append}
use Rattle.constriction_base.specs.declared.backends.reading.Holds as holding
use Rattle.constriction_base.specs.declared.backends.reading.ReadWords as reading
use Rattle.constriction_base.specs.declared.backends.writing.WriteWords as writing
use Rattle.constriction_base.specs.declared.errors.CoderError.{CoderError}
use Rattle.constriction_base.specs.declared.errors.CoderError.TheVariants.{Frontend}
use Rattle.constriction_base.specs.declared.errors.DefaultEncoderFrontendError.{DefaultEncoderFrontendError}
use Rattle.constriction_stream.proofs.Outcomes.{EncodesByBackend, frontend_by}
use Rattle.constriction_laws.specs.Outcomes.{HasImpossibleItem, Reasons, StopsAmong}
use Rattle.constriction_laws.specs.declared.errors.RoundTripError.{RoundTripError}
use Rattle.constriction_laws.specs.declared.errors.RoundTripError.TheVariants as trip
use Rattle.constriction_laws.specs.declared.errors.Stopped.TheVariants.{Refused}
use Rattle.constriction_base.specs.Steps.{Trace}
use Rattle.constriction_base.specs.Tables.{AtEntry}
use Rattle.constriction_base.specs.Models.{Model, Item, IsModel, item_of, pairs_of}
use Rattle.constriction_base.proofs.Entries.{in_range}
use Rattle.constriction_stream.specs.Symbols.{ByBackend, never_frontend}
use Rattle.constriction_queue.specs.Range.{Run}
use Rattle.constriction_queue.specs.Decoder.{Decoder, quantile_read, StandsAt}
use Rattle.constriction_queue.specs.Calls as calls
use Rattle.constriction_queue.specs.Encoder.{Encoder}
use Rattle.constriction_queue.specs.declared.decoder.symbols.DecoderFrontendError.{DecoderFrontendError}
use Rattle.constriction_queue.specs.declared.decoder.symbols.DecoderFrontendError.TheVariants.{InvalidData}
use Rattle.constriction_laws.specs.queue.Outcomes.{NotRead}
use Rattle.constriction_queue.specs.Symbols.{Finds, FindsAll}
use Rattle.constriction_queue.proofs.ComingBack.{one_decode}
use Rattle.constriction_queue.proofs.StepCalls.{decode_of, distance_is}
use Rattle.constriction_laws.proofs.of_queue.Pairs.{both_now, pairs_given, pairs_left}

-- where a symbol is found, what is read is a quantile
found_here : {S B : Type 0} (w s : ℕ) (words : List ℕ) (model : Model S) (x : S) (r next : Run) (d : Decoder B) → IsModel w model → 0 < 2 ^ s → StandsAt w s words r d
    → Finds w s words model x r next → quantile_read s model.precision d < 2 ^ model.precision
found_here w s words model x r next d m some at (left, p, has, (takes, is)) =
    let bound = in_range 0 (2 ^ model.precision) model.table x left p m.lawful.follow has in
    rw (distance_is w s words r d some at, at.range_is) (omega (arith, takes.below, bound.2))

-- ---- where each symbol has a model of its own, and more of them are found, the decoder itself refuses none
module _ {S M W B E Q : Type 0} (F : Type 0) (number : W → ℕ) (holds : holding.Ghosts B W Q) (reads : reading.Ghosts B W Q E) (w s : ℕ) (words : List ℕ) (known : holds.is_list)
    (precision : ℕ) (table : M → List (S × ℕ × ℕ)) (lawful : (m : M) → IsModel w (record { precision = precision; table = table m })) where
  pub more_by_models : 0 < 2 ^ s → (given symbols : List S) (models : List M) (model : M) (rest : List M) (r last : Run) (old mid : Decoder B)
      → drop (length given) models ≡ model ∷ rest → length symbols ≡ length models → StandsAt w s words r old
      → Trace (λ (pair : S × M) old new. AtEntry precision (table pair.1) pair.0 (λ step. ByBackend {F = F} (calls.DecodeCall number holds reads w s) old step (Ok tt) new)) (zip given models) old mid
      → FindsAll w s words (pairs_of precision table symbols models) r last → quantile_read s precision mid < 2 ^ precision
  more_by_models some [] symbols [] model rest r last old mid next count at all found = absurd cc
  more_by_models some [] [] (m ∷ ms) model rest r last old mid next count at all found = absurd (omega (arith, count))
  more_by_models some [] (x ∷ xs) (m ∷ ms) model rest r last old mid next count at all found =
      found_here w s words (record { precision = precision; table = table m }) x r found.0 mid (lawful m) some (subst (λ (d : Decoder B). StandsAt w s words r d) (sym all) at) found.1
  more_by_models some (y ∷ ys) symbols [] model rest r last old mid next count at all found = absurd cc
  more_by_models some (y ∷ ys) [] (m ∷ ms) model rest r last old mid next count at all found = absurd (omega (arith, count))
  more_by_models some (y ∷ ys) (x ∷ xs) (m ∷ ms) model rest r last old mid next count at all found =
      let own : Model S = record { precision = precision; table = table m } in
      let first = decode_of F number holds reads w s words known own y r old all.0 at all.1 in
      let same = one_decode w s words own y x r first.0 found.0 (lawful m) first.1 found.1 in
      more_by_models some ys xs ms model rest first.0 last all.0 mid next (omega (arith, count)) first.2 all.2
      (subst (λ (r : Run). FindsAll w s words (pairs_of precision table xs ms) r last) (sym same.1) found.2)

module _ {S M W B E Q : Type 0} (number : W → ℕ) (holds : holding.Ghosts B W Q) (reads : reading.Ghosts B W Q E) (w s : ℕ) (words : List ℕ) (known : holds.is_list)
    (precision : ℕ) (table : M → List (S × ℕ × ℕ)) (lawful : (m : M) → IsModel w (record { precision = precision; table = table m })) where
  pub never_among : 0 < 2 ^ s → (symbols : List S) (models : List M) (taken : ℕ) (r last : Run) (old new : Decoder B) (f : DecoderFrontendError) → length symbols ≡ length models
      → StandsAt w s words r old → FindsAll w s words (pairs_of precision table symbols models) r last
      → StopsAmong {E = CoderError DecoderFrontendError E} (ByBackend {F = DecoderFrontendError} (calls.DecodeCall number holds reads w s))
      (λ old error new. (error ≡ Frontend InvalidData) × (2 ^ precision ≤ quantile_read s precision old) × (new ≡ old)) precision table models taken old (Refused (Frontend f)) new → ⊥
  never_among some symbols models taken r last old new f count at found (given, mid, model, rest, is_taken, fewer, next, all, inl halt) =
      omega (arith, halt.1, more_by_models DecoderFrontendError number holds reads w s words known precision table lawful some given symbols models model rest r last old mid next count at all found)
  never_among some symbols models taken r last old new f count at found (given, mid, model, rest, is_taken, fewer, next, all, inr (symbol, (left, p, has, (answer, call, is)))) =
      never_frontend answer f is

-- ---- encodes that were refused

pub unknown_among : {S M W B E Q : Type 0} (number : W → ℕ) (holds : holding.Ghosts B W Q) (writes : writing.Ghosts B W E) (w s : ℕ)
    (P : ℕ) (table : M → List (S × ℕ × ℕ)) (symbols : List S) (models : List M) (i : Zip (Iter S) (Iter M)) (coded : List (Bor S × Bor M)) (pair : Bor S × Bor M) (rest : Zip (Iter S) (Iter M))
    (old new : Encoder B) (refusal : DefaultEncoderFrontendError) → pairs_left i ≡ zip symbols models → YieldsThen (zip_steps iter_steps iter_steps) i coded (Some pair) rest
    → EncodesByBackend (calls.EncodeCall number holds writes w s) P (table pair.1.now) pair.0.now old (Err (Frontend refusal)) new
    → HasImpossibleItem (pairs_of P table symbols models)
unknown_among {S} {M} number holds writes w s P table symbols models i coded pair rest old new refusal is gave step =
    let item : S × M → Item S = λ pair. item_of (record { precision = P; table = table pair.1 }) pair.0 in
    let behind : pairs_left gave.0 ≡ both_now pair ∷ pairs_left rest = pairs_given gave.0 (pair ∷ []) rest (rest, gave.2, refl) in
    let parts : zip symbols models ≡ map both_now coded ++ both_now pair ∷ pairs_left rest =
    sym is ∙ (pairs_given i coded gave.0 gave.1 ∙ ap (λ (ps : List (S × M)). map both_now coded ++ ps) behind) in (
      map item (map both_now coded),
      map item (pairs_left rest),
      item (both_now pair),
      ap (λ (ps : List (S × M)). map item ps) parts ∙ map-append item (map both_now coded) (both_now pair ∷ pairs_left rest),
      (frontend_by (calls.EncodeCall number holds writes w s) P (table pair.1.now) pair.0.now old new refusal step).0,
    )

-- ---- reasons, of a call that is made behind others
module _ (invalid : Type 0) where
  pub while_reading : (impossible many none : Type 0) (e : RoundTripError) → NotRead none e → (none → invalid) → Reasons impossible many invalid (λ taken. ⊥) e
  while_reading impossible many none trip.ImpossibleSymbol why law = absurd why
  while_reading impossible many none trip.TooManySymbols why law = absurd why
  while_reading impossible many none trip.InvalidData why law = law why
  while_reading impossible many none (trip.OutOfData taken) why law = why
  while_reading impossible many none trip.Refused why law = tt

pub err_weaker : {T E : Type 0} (answer : Result T E) {P Q : E → Type 0} → IfErr answer P → ((e : E) → P e → Q e) → IfErr answer Q
err_weaker (Ok x) h k = tt
err_weaker (Err e) h k = k e h

-- an error that is passed on
pub passed : {T : Type 0} (answer : Result T RoundTripError) (e : RoundTripError) (reasons : RoundTripError → Type 0) → IsErrAnd answer (λ error. error ≡ e) → reasons e → IfErr answer reasons
passed (Ok x) e reasons is why = tt
passed (Err error) e reasons is why = rw is why
