-- What calls of the range coder did, as their records say it.
use Rattle.std.proofs.Common.{◌≡◌, ℕ, ◌+◌, ◌-◌, ◌/◌, ◌<◌, ◌≤◌, ◌^◌, ◌⊎◌, List, [], ◌++◌, length, map, take, refl, sym, ap, ◌∙◌, inr, arith, Result, Ok, Err}
use Rattle.std.specs.Prelude.{OnErr, OnOk, IfErr}
use Rattle.std.proofs.lemmas.List.{length-append, length-map, length-take, map-append}
use Rattle.constriction_base.specs.Models.{AreKnown}
use Rattle.constriction_base.specs.Steps.{IsSizes}
use Rattle.constriction_queue.specs.Range.{Run, narrowed_by, sealed}
use Rattle.constriction_queue.specs.Symbols.{NarrowsAll}
use Rattle.constriction_inputs.specs.Buffers.{Appended}
use Rattle.constriction_inputs.specs.Coded.{AreFit, Coded, items}
use Rattle.constriction_calls.specs.RangeCalls.{CanEncode, ValidDecoder, ValidEncoder, IsSealed, IsSelfSealed, TooShortForEncoder, LeadsBy, NoListFromParts, RangeBuffers, RangeEncodesList, RangeSeals, RangeDecodesList, RoomFirst, run_of_parts}
use Rattle.constriction_inputs.specs.Refusals.{NoMemoryOrSpace, NoMemoryOrInvalid}
use Rattle.constriction_inputs.specs.declared.refusal.Refusal.{Refusal}
use Rattle.constriction_inputs.specs.declared.refusal.Refusal.TheVariants as refusals
use Rattle.constriction_calls.specs.declared.range.parts.DecoderParts.{DecoderParts}
use Rattle.constriction_calls.specs.declared.range.parts.EncoderParts.{EncoderParts}
use Rattle.constriction_inputs.proofs.Asking.{asked_ok, fit_then, room_of}
use Rattle.constriction_inputs.proofs.KnownItems.{known_by}
use Rattle.constriction_queue.proofs.SealedSelf.{sealed_self}
use Rattle.constriction_calls.proofs.RangeBuffers.{interval_kept, narrows_kept, sealed_kept}

-- ---- encodes
module _ {Word State : Type 0} (number : Word → ℕ) (state : State → ℕ) (w s precision : ℕ) (coded : Coded) (count : ℕ) (old : RangeBuffers Word State)
    (within : old.len ≤ length old.words) (fit : AreFit precision coded) where
  module _ (can : CanEncode number state w s old.encoder count) (room : old.len + old.encoder.held ≤ length old.words) where
    pub puts_room : AreKnown (items precision coded) → (new : RangeBuffers Word State) → new ≡ old → (e : Refusal)
        → NoMemoryOrSpace (TooShortForEncoder number state w s (items precision coded) old.encoder old.words old.len) e → RangeEncodesList number state w s precision coded count old new (Err e)
    puts_room known new kept e why = record { put = tt; asked = inr (within, fit_then precision coded fit (inr (can, inr (known, inr (room, why))))); kept = kept }

    -- words were written, and put into the buffer, or not
    module _ (first : Run) (first_is : first ≡ run_of_parts number state w s old.encoder []) (now : EncoderParts Word State) (is : ValidEncoder number state w s now) (made added : List Word) (same : added ≡ made)
        (all : NarrowsAll w s (items precision coded) first (run_of_parts number state w s now made)) where
      known : AreKnown (items precision coded)
      known = known_by (λ e a b. b ≡ narrowed_by w s e a) _ _ _ all

      narrowed : NarrowsAll w s (items precision coded) (run_of_parts number state w s old.encoder (take old.len old.words)) (run_of_parts number state w s now (take old.len old.words ++ added))
      narrowed = rw same (narrows_kept number state w s old.encoder (items precision coded) now made (rw first_is at all) (take old.len old.words))

      pub puts_ended : (answer : Result (Unit {0}) Refusal) (encoder : EncoderParts Word State) (words : List Word) (len : ℕ) → OnOk answer ((encoder ≡ now) × Appended old.words old.len added words len)
          → IfErr answer (λ e. (e ≡ refusals.NoSpace (old.len + length added)) ⊎ ((e ≡ refusals.NoMemory) × (2 ^ 64 ≤ old.len + length added))) → OnErr answer (length old.words < old.len + length added)
          → OnErr answer ((encoder ≡ old.encoder) × (words ≡ old.words) × (len ≡ old.len))
          → RangeEncodesList number state w s precision coded count old (record { encoder = encoder; words = words; len = len }) answer
      puts_ended (Ok u) encoder words len ended err full kept = record {
        put = record { narrowed = rw (ended.0, ended.1.words) narrowed; is = rw ended.0 is; added = added; appended = ended.1 };
        asked = inr (within, fit_then precision coded fit (inr (can, inr (known, inr (room, tt)))));
        kept = tt;
      }
      puts_ended (Err e) encoder words len ended err full kept =
          let lacks : TooShortForEncoder number state w s (items precision coded) old.encoder old.words old.len (old.len + length added) =
          record { less = full; new = now; words = take old.len old.words ++ added; narrowed = narrowed; is = is; count = omega (arith, (length-append (take old.len old.words) added), length-take old.len old.words, within) } in
          puts_room known (record { encoder = encoder; words = words; len = len }) (rw (kept.0, kept.1, kept.2) refl) e (room_of _ e (old.len + length added) err lacks)

-- ---- seals
module _ {Word State : Type 0} (number : Word → ℕ) (state : State → ℕ) (w s : ℕ) (old : RangeBuffers Word State) (within : old.len ≤ length old.words) (is : ValidEncoder number state w s old.encoder) where
  pub seals_room : (ends : Run → List ℕ → Type 0) (new : RangeBuffers Word State) → new ≡ old → (e : Refusal)
      → RoomFirst (length old.words) (length (sealed w s (run_of_parts number state w s old.encoder (take old.len old.words)))) e → RangeSeals number state w s ends old new (Err e)
  seals_room ends new kept e room = record { words = tt; appended = tt; asked = inr (within, inr (is, room)); kept = kept }

  module _ (words : (x : Word) → number x < 2 ^ w) (states : (x : State) → state x < 2 ^ s) (sizes : IsSizes w s) (first : Run) (first_is : first ≡ run_of_parts number state w s old.encoder []) where
    -- how many words there are
    pub count_is : length (sealed w s (run_of_parts number state w s old.encoder (take old.len old.words))) ≡ old.len + length (sealed w s first)
    count_is =
        let all = sealed_kept number state w s old.encoder words states sizes is (take old.len old.words) in
        let own : length (sealed w s first) ≡ length (sealed w s (run_of_parts number state w s old.encoder [])) = ap (λ (r : Run). length (sealed w s r)) first_is in
        omega (arith, ap length all, length-append (map number (take old.len old.words)) (sealed w s (run_of_parts number state w s old.encoder [])), length-map (take old.len old.words) number, length-take old.len old.words, within, own)

    -- they were put into the buffer, or not
    pub seals_after : (all added : List Word) → added ≡ all → map number all ≡ sealed w s first → length (sealed w s first) ≤ length old.words - old.len → (answer : Result (Unit {0}) Refusal) (new_words : List Word) (new_len : ℕ)
        → OnOk answer (Appended old.words old.len added new_words new_len) → IfErr answer (λ e. (e ≡ refusals.NoSpace (old.len + length added)) ⊎ ((e ≡ refusals.NoMemory) × (2 ^ 64 ≤ old.len + length added)))
        → OnErr answer (length old.words < old.len + length added) → OnErr answer ((new_words ≡ old.words) × (new_len ≡ old.len))
        → RangeSeals number state w s (IsSealed w s) old (record { encoder = old.encoder; words = new_words; len = new_len }) answer
    seals_after all added same made room (Ok u) new_words new_len a err full kept = record {
      words = ap (map number) a.words ∙ map-append number (take old.len old.words) added ∙ ap (λ (xs : List Word). map number (take old.len old.words) ++ map number xs) same
          ∙ ap (λ (ws : List ℕ). map number (take old.len old.words) ++ ws) (made ∙ ap (λ (r : Run). sealed w s r) first_is)
          ∙ sym (sealed_kept number state w s old.encoder words states sizes is (take old.len old.words));
      appended = (added, a);
      asked = inr (within, inr (is, tt));
      kept = tt;
    }
    seals_after all added same made room (Err e) new_words new_len a err full kept =
        let many : length added ≡ length (sealed w s first) = ap length same ∙ sym (length-map all number) ∙ ap length made in
        absurd (omega (arith, many, room, within, full))

-- where a state is two words they hold whatever follows
pub seals_self : {Word State : Type 0} (number : Word → ℕ) (state : State → ℕ) (w s : ℕ) (old new : RangeBuffers Word State) (answer : Result (Unit {0}) Refusal) → ((x : Word) → number x < 2 ^ w) → ((x : State) → state x < 2 ^ s)
    → IsSizes w s → s / w ≡ 2 → RangeSeals number state w s (IsSealed w s) old new answer → RangeSeals number state w s (IsSelfSealed w s) old new answer
seals_self number state w s old new (Ok u) words states sizes two r =
    record {
      words = (r.words, sealed_self w s _ _ sizes two (interval_kept number state w s old.encoder words states ((asked_ok (asked_ok r.asked).1).0) (take old.len old.words)) r.words);
      appended = r.appended;
      asked = r.asked;
      kept = tt;
    }
seals_self number state w s old new (Err e) words states sizes two r = record { words = tt; appended = tt; asked = r.asked; kept = r.kept }

-- ---- decodes
module _ {State : Type 0} (state : State → ℕ) (w s precision : ℕ) (coded : List ℕ → Coded) (buffer : List ℕ) (old : DecoderParts State) (symbols : List ℕ) (within : old.pos ≤ length buffer)
    (fit : AreFit precision (coded symbols)) (is : ValidDecoder state w s old) where
  pub takes_fault : (e : Refusal) → NoMemoryOrInvalid (NoListFromParts state w s buffer (λ others. items precision (coded others)) (length symbols) old) e
      → RangeDecodesList state w s precision coded buffer old old symbols symbols (Err e)
  takes_fault e why = record { taken = tt; within = tt; asked = inr (within, fit_then precision (coded symbols) fit (inr (is, why))); kept = (refl, refl) }

  pub takes_after : (new : DecoderParts State) (new_symbols : List ℕ) → LeadsBy state w s buffer (items precision (coded new_symbols)) old new → new.pos ≤ length buffer → length new_symbols ≡ length symbols
      → RangeDecodesList state w s precision coded buffer old new symbols new_symbols (Ok tt)
  takes_after new new_symbols leads inside count = record { taken = leads; within = (inside, count); asked = inr (within, fit_then precision (coded symbols) fit (inr (is, tt))); kept = tt }

-- want of memory, or words that hold none, for another reason
pub words_moved : {none other : Type 0} (e : Refusal) → (none → other) → NoMemoryOrInvalid none e → NoMemoryOrInvalid other e
words_moved refusals.InvalidData move why = move why
words_moved e move why = why
