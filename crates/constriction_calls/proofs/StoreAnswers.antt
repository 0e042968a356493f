-- What a build and a look-up say of their last answers: the others only say which of what is asked for isn't so.
use Rattle.std.specs.Prelude.{Ok, Err}
use Rattle.std.proofs.Common.{◌≡◌, ◌∙◌, ◌⊎◌, ℕ, ◌-◌, ◌<◌, ◌≤◌, ◌^◌, List, drop, length, map, inr, arith}
use Rattle.constriction_base.specs.Models.{AreKnown, items_of}
use Rattle.constriction_store.specs.Stores.{Entry, HoldsChunk, HoldsChunks, IsBuilt, entry_of}
use Rattle.constriction_calls.specs.StoreCalls.{ValidIndex, StoreBuilds, StoreDecodesList, StoreBuffers, chunks_by, store_index_of, store_words_of}
use Rattle.constriction_inputs.specs.Refusals.{NoMemoryOrInvalid}
use Rattle.constriction_inputs.specs.Weights.{IsTotal, weights_model}
use Rattle.constriction_inputs.specs.declared.refusal.Refusal.{Refusal}
use Rattle.constriction_inputs.specs.declared.refusal.Refusal.TheVariants as refusals
use Rattle.constriction_inputs.proofs.Asking.{room_of}
use Rattle.constriction_store.proofs.Lengths.{lens_of}
use Rattle.constriction_calls.proofs.StoreIndex.{cut_lengths, entries_are, known_chunks}

-- ---- builds: a store that was built, and is put where the caller keeps it
module _ {Word State : Type 0} (number : Word → ℕ) (state : State → ℕ) (w s precision : ℕ) (weights symbols lengths : List ℕ) (old : StoreBuffers Word State)
    (fit : ValidIndex symbols lengths old) (total : IsTotal precision weights) (index : List Entry) (words : List ℕ) (built : IsBuilt w s (weights_model precision weights) (chunks_by symbols lengths) index words) where
  known : AreKnown (items_of (weights_model precision weights) symbols)
  known = known_chunks w s (weights_model precision weights) symbols lengths index _ built.0 fit.all built.1

  pub space_refused : (new : StoreBuffers Word State) → new ≡ old → (refusal : Refusal) (count : ℕ) → count ≡ length words → length old.words < count
      → (refusal ≡ refusals.NoSpace count) ⊎ ((refusal ≡ refusals.NoMemory) × (2 ^ 64 ≤ count)) → StoreBuilds number state w s precision weights symbols lengths old new (Err refusal)
  space_refused new same refusal count is less why =
      record {
        built = tt;
        chunks = tt;
        within = tt;
        behind = tt;
        asked = inr (fit, inr (total, inr (known, room_of _ refusal count why (record { less = less; index = index; words = words; built = built; count = is }))));
        kept = same;
      }

  pub kept_store : (new : StoreBuffers Word State) → HoldsChunks w s (weights_model precision weights) words index (chunks_by symbols lengths)
      → new.positions ≡ map (λ e. e.place) index → map state new.lowers ≡ map (λ e. e.lower) index → map state new.ranges ≡ map (λ e. e.range) index
      → store_words_of number new ≡ words → new.len ≤ length new.words → drop new.len new.words ≡ drop new.len old.words
      → StoreBuilds number state w s precision weights symbols lengths old new (Ok tt)
  kept_store new holds places lowers ranges words_are inside behind =
      let lens : map (λ e. e.len) index ≡ lengths = lens_of w s (weights_model precision weights) (chunks_by symbols lengths) index _ built.0 built.1 ∙ cut_lengths symbols lengths (omega (arith, fit.all)) in
      let index_is : store_index_of state lengths new ≡ index = entries_are index new.positions (map state new.lowers) (map state new.ranges) lengths places lowers ranges lens in
      record {
        built = rw (index_is, words_are) built;
        chunks = rw (index_is, words_are) holds;
        within = inside;
        behind = behind;
        asked = inr (fit, inr (total, inr (known, tt)));
        kept = tt;
      }

-- ---- look-ups: the interval is long enough
module _ {State : Type 0} (state : State → ℕ) (w s precision : ℕ) (weights words : List ℕ) (place : ℕ) (lower range : State) (old : List ℕ)
    (within : place ≤ length words) (total : IsTotal precision weights) (least : 2 ^ (s - w) ≤ state range) where
  pub chunk_given : (new : List ℕ) → HoldsChunk w s (weights_model precision weights) words (entry_of place (state lower) (state range) (length old)) new
      → StoreDecodesList state w s precision weights words place lower range old new (Ok tt)
  chunk_given new held = record { ok = held; asked = inr (within, inr (total, inr (least, tt))); kept = tt }

  pub look_up_refused : (refusal : Refusal)
      → NoMemoryOrInvalid ((symbols : List ℕ) → HoldsChunk w s (weights_model precision weights) words (entry_of place (state lower) (state range) (length old)) symbols → ⊥) refusal
      → (new : List ℕ) → new ≡ old → StoreDecodesList state w s precision weights words place lower range old new (Err refusal)
  look_up_refused refusal why new same = record { ok = tt; asked = inr (within, inr (total, inr (least, why))); kept = same }
