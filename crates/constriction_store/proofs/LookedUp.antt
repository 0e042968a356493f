-- What a look-up answers, by what a decoder at the entry gives.
use Rattle.std.specs.Prelude.{Result, Ok, Err, IfOk, IfErr, MatchResult, ⊤}
use Rattle.std.specs.declared.vec.Vec.{Vec}
use Rattle.std.proofs.Common.{◌≡◌, ◌↔◌, ℕ, ◌<◌, ◌≤◌, List, [], ◌∷◌, ◌++◌, get_or, length, refl, sym, subst, arith, inl, inr}
use Rattle.std.proofs.lemmas.Bool.{cases_lt}
use Rattle.constriction_base.specs.Models.{Model, IsModel, items_of}
use Rattle.constriction_queue.specs.Decoder.{Decoder, StandsAt}
use Rattle.constriction_queue.specs.Range.{Run}
use Rattle.constriction_queue.specs.Symbols.{FindsAll}
use Rattle.constriction_store.specs.LookedUp.{CannotLookUp, ChunkFails, HoldsEach, HoldsSome, IsChunk, LookUpFails}
use Rattle.constriction_store.specs.Chunks.{chunk_in}
use Rattle.constriction_store.specs.Stores.{Entry, HoldsChunk, HoldsChunks, HoldsNoChunk, entry_in, run_at}
use Rattle.constriction_store.specs.declared.looking_up.ChunkError.{ChunkError}
use Rattle.constriction_store.specs.declared.looking_up.ChunkError.TheVariants.{NoSuchChunk, Invalid, Memory}
use Rattle.constriction_store.proofs.Symbols.{another_behind, one_reading}

module _ {B : Type 0} (w s : ℕ) (model : Model ℕ) (words : List ℕ) (e : Entry) (d : Decoder B) (at : StandsAt w s words (run_at e) d) where
  pub chunk_ok : {A : Type 0} (answer : Result (Vec ℕ A) ChunkError) → IfOk answer (λ v. length v.items ≡ e.len)
      → ((words : List ℕ) (there : Run) → StandsAt w s words there d → IfOk answer (λ v. (last : Run) × FindsAll w s words (items_of model v.items) there last))
      → IfOk answer (λ v. HoldsChunk w s model words e v.items)
  chunk_ok (Ok v) count ok = (count, ok words (run_at e) at)
  chunk_ok (Err x) count ok = tt

  pub chunk_err : {A : Type 0} (answer : Result (Vec ℕ A) ChunkError) (index : List Entry) (i : ℕ) → i < length index → entry_in index i ≡ e
      → ((words : List ℕ) (there : Run) → StandsAt w s words there d → IfErr answer (ChunkFails w s model words there e.len))
      → IfErr answer (LookUpFails w s model words index i)
  chunk_err (Ok v) index i inside is err = tt
  chunk_err (Err NoSuchChunk) index i inside is err = absurd (err words (run_at e) at)
  chunk_err (Err Invalid) index i inside is err = (inside, subst (λ (e : Entry). HoldsNoChunk w s model words e) (sym is) (err words (run_at e) at))
  chunk_err (Err Memory) index i inside is err = (inside, subst (λ (e : Entry). HoldsSome w s model words e) (sym is) (err words (run_at e) at))

  pub chunk_none : {A : Type 0} (answer : Result (Vec ℕ A) ChunkError) (n i : ℕ) → i < n
      → ((words : List ℕ) (there : Run) → StandsAt w s words there d → IfErr answer (ChunkFails w s model words there e.len))
      → (answer ≡ Err NoSuchChunk) ↔ (n ≤ i)
  chunk_none (Ok v) n i inside err = (λ is. absurd cc, λ past. absurd (omega arith))
  chunk_none (Err NoSuchChunk) n i inside err = absurd (err words (run_at e) at)
  chunk_none (Err Invalid) n i inside err = (λ is. absurd cc, λ past. absurd (omega arith))
  chunk_none (Err Memory) n i inside err = (λ is. absurd cc, λ past. absurd (omega arith))

  pub chunk_back : {A : Type 0} (answer : Result (Vec ℕ A) ChunkError) (symbols : List ℕ) → IsModel w model → HoldsChunk w s model words e symbols → IfOk answer (λ v. length v.items ≡ e.len)
      → ((words : List ℕ) (there : Run) → StandsAt w s words there d → IfOk answer (λ v. (last : Run) × FindsAll w s words (items_of model v.items) there last))
      → ((words : List ℕ) (there : Run) → StandsAt w s words there d → IfErr answer (ChunkFails w s model words there e.len))
      → IsChunk symbols answer
  chunk_back (Ok v) symbols m held count ok err =
      let read = ok words (run_at e) at in
      one_reading w s words model symbols v.items (run_at e) held.1.0 read.0 m (omega (arith, count, held.0)) held.1.1 read.1
  chunk_back (Err NoSuchChunk) symbols m held count ok err = absurd (err words (run_at e) at)
  chunk_back (Err Invalid) symbols m held count ok err =
      let failed = err words (run_at e) at in
      absurd (another_behind w s words model failed.0 symbols (run_at e) failed.1 held.1.0 m (omega (arith, failed.3, held.0)) failed.2 held.1.1 failed.4)
  chunk_back (Err Memory) symbols m held count ok err = refl

-- ---- in a store that holds chunks
-- what is known of a refusal at a place
abbrev FailsAt : List (List ℕ) → ℕ → ChunkError → Type 0
FailsAt chunks i NoSuchChunk = length chunks ≤ i
FailsAt chunks i Invalid = ⊥
FailsAt chunks i Memory = ⊤

pub found_one : {A : Type 0} (w s : ℕ) (model : Model ℕ) (words : List ℕ) (index : List Entry) (chunks : List (List ℕ)) (i : ℕ) (answer : Result (Vec ℕ A) ChunkError)
    → HoldsChunks w s model words index chunks → ((answer ≡ Err NoSuchChunk) ↔ (length index ≤ i))
    → (i < length index → (symbols : List ℕ) → HoldsChunk w s model words (entry_in index i) symbols → IsChunk symbols answer)
    → MatchResult answer (λ v. v.items ≡ chunk_in chunks i) (FailsAt chunks i)
found_one w s model words index chunks i (Ok v) held none back = elim (cases_lt i (length index)) [
  | inl less ↦ back less (chunk_in chunks i) (held.each i (omega (arith, less, held.count)))
  | inr past ↦ let never = none.1 past in absurd cc
]
found_one w s model words index chunks i (Err NoSuchChunk) held none back = omega (arith, none.0 refl, held.count)
found_one w s model words index chunks i (Err Invalid) held none back = elim (cases_lt i (length index)) [
  | inl less ↦ let never = back less (chunk_in chunks i) (held.each i (omega (arith, less, held.count))) in absurd cc
  | inr past ↦ let never = none.1 past in absurd cc
]
found_one w s model words index chunks i (Err Memory) held none back = tt

pub cannot_look_up : (chunks : List (List ℕ)) (places : List ℕ) (k : ℕ) (e : ChunkError) → k < length places → FailsAt chunks (get_or places k 0) e → CannotLookUp chunks places e
cannot_look_up chunks places k NoSuchChunk inside fails = (k, inside, fails)
cannot_look_up chunks places k Invalid inside fails = absurd fails
cannot_look_up chunks places k Memory inside fails = omega (arith, inside)

-- ---- in any store
-- a look-up that gives a chunk is one of an entry
pub is_entry : {T : Type 0} (answer : Result T ChunkError) (n i : ℕ) → ((answer ≡ Err NoSuchChunk) ↔ (n ≤ i)) → IfOk answer (λ _. i < n)
is_entry (Ok chunk) n i none = elim (cases_lt i n) [
  | inl less ↦ less
  | inr past ↦ let never = none.1 past in absurd cc
]
is_entry (Err refusal) n i none = tt

-- one place more
pub holds_one_more : (w s : ℕ) (model : Model ℕ) (words : List ℕ) (index : List Entry) (places : List ℕ) (chunks : List (List ℕ)) (i : ℕ) (chunk : List ℕ)
    → HoldsEach w s model words index places chunks → i < length index → HoldsChunk w s model words (entry_in index i) chunk
    → HoldsEach w s model words index (places ++ i ∷ []) (chunks ++ chunk ∷ [])
holds_one_more w s model words index [] [] i chunk held inside here = (inside, here, tt)
holds_one_more w s model words index [] (c ∷ cs) i chunk held inside here = absurd held
holds_one_more w s model words index (p ∷ ps) [] i chunk held inside here = absurd held
holds_one_more w s model words index (p ∷ ps) (c ∷ cs) i chunk held inside here =
    (held.0, held.1, holds_one_more w s model words index ps cs i chunk held.2 inside here)
