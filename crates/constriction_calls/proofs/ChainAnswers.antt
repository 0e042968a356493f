-- What calls of the chain coder say of each answer.
use Rattle.std.proofs.Common.{◌≡◌, ◌⊎◌, ℕ, ◌≤◌, List, Ok, Err, length, reverse, refl, inl, inr}
use Rattle.constriction_base.specs.Models.{AreKnown, Item}
use Rattle.constriction_chain.specs.Chain.{IsEncode}
use Rattle.constriction_chain.specs.Symbols.{ChainDecodesAll}
use Rattle.constriction_inputs.specs.Buffers.{Appended}
use Rattle.constriction_calls.specs.ChainCalls.{AreInUse, ChainBuffers, ChainEncodesList, ChainDecodesList, LacksCompressed, ValidHeads, LacksRemainders, TooShortForCompressed, TooShortForRemainders, chain_state_of}
use Rattle.constriction_inputs.specs.Coded.{AreFit, Coded, items}
use Rattle.constriction_inputs.specs.Refusals.{NoMemorySpaceOrData}
use Rattle.constriction_inputs.specs.declared.refusal.Refusal.{Refusal}
use Rattle.constriction_inputs.specs.declared.refusal.Refusal.TheVariants as refusals
use Rattle.constriction_inputs.proofs.Asking.{fit_then}
use Rattle.constriction_calls.specs.ChainItems.{ChainEncodesItems}
use Rattle.constriction_inputs.proofs.KnownItems.{known_turned}

-- want of memory, or the end of the data
pub of_data : {early : Type 0} (ends : Type 0) (needs : ℕ → Type 0) (e : Refusal) → (e ≡ refusals.NoMemory) ⊎ ((e ≡ refusals.OutOfData) × early) → (early → ends) → NoMemorySpaceOrData ends needs e
of_data ends needs e (inl is) ended = rw is tt
of_data ends needs e (inr why) ended = rw why.0 (ended why.1)

-- want of memory, or of room
pub of_room : {past : Type 0} (ends : Type 0) (needs : ℕ → Type 0) (e : Refusal) (n : ℕ) → (e ≡ refusals.NoMemory) ⊎ ((e ≡ refusals.NoSpace n) × past) → (past → needs n) → NoMemorySpaceOrData ends needs e
of_room ends needs e n (inl is) needed = rw is tt
of_room ends needs e n (inr why) needed = rw why.0 (needed why.1)

module _ {Word State : Type 0} (number : Word → ℕ) (state : State → ℕ) (w s P : ℕ) (old : ChainBuffers Word State) where
  -- ---- encodes
  -- items that could not be encoded
  pub items_stopped : (items : List (Item ℕ)) (e : Refusal)
      → ((e ≡ refusals.ImpossibleSymbol) × (AreKnown items → ⊥))
      ⊎ NoMemorySpaceOrData (LacksRemainders w s (reverse items) (chain_state_of number state old)) (TooShortForCompressed w s (reverse items) (chain_state_of number state old) (length old.compressed)) e
      → (new : ChainBuffers Word State) → new ≡ old → ChainEncodesItems number state w s items old new (Err e)
  items_stopped items e why new kept = record { put = tt; taken = tt; appended = tt; refused = why; kept = kept }

  module _ (within : AreInUse old) (coded : Coded) (fit : AreFit P coded) (heads : ValidHeads number state w s P old.heads) where
    -- all items are encoded
    pub puts_ended : (items' : List (Item ℕ)) → items' ≡ items P coded → (new : ChainBuffers Word State) → ChainEncodesItems number state w s items' old new (Ok tt)
        → ChainEncodesList number state w s P coded old new (Ok tt)
    puts_ended items' is new done =
        let all = rw is at done.put in
        record {
          put = all;
          taken = done.taken;
          appended = done.appended;
          asked = inr (within, fit_then P coded fit (inr (heads, inr (known_turned (IsEncode w s) (items P coded) _ _ all, tt))));
          kept = tt;
        }

  -- ---- decodes
  module _ (within : AreInUse old) (coded : List ℕ → Coded) (symbols : List ℕ) (fit : AreFit P (coded symbols)) (heads : ValidHeads number state w s P old.heads) where
    pub takes_stopped : (n : ℕ) → n ≡ length symbols → (new : ChainBuffers Word State) → new ≡ old → (e : Refusal)
        → NoMemorySpaceOrData (LacksCompressed w s P (λ xs. items P (coded xs)) n (chain_state_of number state old))
        (TooShortForRemainders w s (λ xs. items P (coded xs)) n (chain_state_of number state old) (length old.remainders)) e → ChainDecodesList number state w s P coded old new symbols symbols (Err e)
    takes_stopped n count new kept e behind = record { taken = tt; count = tt; fewer = tt; appended = tt; asked = inr (within, fit_then P (coded symbols) fit (inr (heads, rw (← count) behind))); kept = (kept, refl) }

    pub takes_ended : (new : ChainBuffers Word State) (others : List ℕ) → length others ≡ length symbols
        → (new.compressed_len ≤ old.compressed_len) × ChainDecodesAll w s (items P (coded others)) (chain_state_of number state old) (chain_state_of number state new)
        → new.compressed ≡ old.compressed → (added : List Word) → Appended old.remainders old.remainders_len added new.remainders new.remainders_len
        → ChainDecodesList number state w s P coded old new symbols others (Ok tt)
    takes_ended new others counted taken stays added appended =
        record { taken = taken.1; count = counted; fewer = (stays, taken.0); appended = (added, appended); asked = inr (within, fit_then P (coded symbols) fit (inr (heads, tt))); kept = tt }
